-- what is added for the names that are left is added for all
use Rattle.std.proofs.Common.{List, map, string_bytes}
use Rattle.std.specs.Vec.Iter.{into_iter_items}
use Rattle.clap.specs.Words.{Text}
use Rattle.pam_cli.specs.DeadLinks.{AddsDead, AreAdded}
use Rattle.pam_cli.specs.System.{place_view}
use Rattle.pam_cli.proofs.reading.dead_links.put_folder.Given as goal

abbrev pub invariant-loop-name : goal.invariant-loop-name
invariant-loop-name g l =
    (all : List Text) →
    AreAdded (g.S.System.told l.fn.system) (place_view l.fn.folder) l.fn.files.entries (map string_bytes (into_iter_items l.name-iterator)) l.dead all →
    AddsDead (g.S.System.told l.fn.system) (place_view l.fn.folder) l.fn.files.entries l.initial.dead all
