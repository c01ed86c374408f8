-- the controls so far are those of the first modules
use Rattle.std.proofs.Common.{◌≡◌, map, take}
use Rattle.std.specs.List.{range_with_len}
use Rattle.pam_drawing.specs.picture.Layouts.{written_control}
use Rattle.pam_drawing.specs.picture.Places.{bytes_of}
use Rattle.pam_drawing.proofs.picture.layout.controls.first_controls.Given as goal

abbrev pub invariant-loop-index : goal.invariant-loop-index
invariant-loop-index l = map bytes_of l.controls.items ≡ map (written_control l.stack) (take l.index (range_with_len 0 l.count))
