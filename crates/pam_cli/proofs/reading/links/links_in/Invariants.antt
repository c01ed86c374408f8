-- what is told of the files so far
use Rattle.std.proofs.Common.{map}
use Rattle.pam_cli.specs.Links.{AreOut}
use Rattle.pam_words.specs.Wanted.{candidate_view}
use Rattle.pam_cli.proofs.reading.links.links_in.Given as goal

abbrev pub invariant-loop-position : goal.invariant-loop-position
invariant-loop-position g l =
    AreOut (g.S.System.told l.fn.system) (map candidate_view l.fn.candidates) l.fn.folder l.fn.vendor l.fn.found.vendor_start
    l.fn.found.files.entries l.position l.outside.items
