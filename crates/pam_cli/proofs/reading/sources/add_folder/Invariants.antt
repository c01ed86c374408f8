-- files of the folder are added so far, whose names come before those that are left
use Rattle.std.proofs.Common.{map, option_map, string_bytes}
use Rattle.std.specs.Vec.Iter.{into_iter_items}
use Rattle.pam_cli.specs.System.{place_view}
use Rattle.pam_cli.specs.inner.Sources.{AddsBefore}
use Rattle.pam_cli.proofs.reading.sources.add_folder.Given as goal

abbrev pub invariant-loop-name : goal.invariant-loop-name
invariant-loop-name g l =
    AddsBefore (g.S.System.told l.fn.system) (option_map place_view l.fn.above) (place_view l.fn.folder)
    (map string_bytes (into_iter_items l.name-iterator)) l.initial.found l.found
