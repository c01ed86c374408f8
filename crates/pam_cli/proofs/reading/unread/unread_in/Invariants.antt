-- what is told of the files so far
use Rattle.std.proofs.Common.{map}
use Rattle.pam_cli.specs.System.{place_view}
use Rattle.pam_cli.specs.UnreadFiles.{AreUnread}
use Rattle.pam_words.specs.Wanted.{candidate_view}
use Rattle.pam_cli.proofs.reading.unread.unread_in.Given as goal

abbrev pub invariant-loop-position : goal.invariant-loop-position
invariant-loop-position g l =
    AreUnread (g.S.System.told l.fn.system) (map candidate_view l.fn.candidates) (place_view l.fn.folder) (place_view l.fn.vendor)
    l.fn.read.vendor_start l.fn.read.files.entries l.position l.found.at.items
