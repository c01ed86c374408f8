-- the notes so far are those of the first classes
use Rattle.std.proofs.Common.{◌≡◌, map, take}
use Rattle.std.specs.List.{range_with_len}
use Rattle.pam_drawing.specs.picture.Notes.{number_of, told_by}
use Rattle.pam_drawing.proofs.picture.layout.notes.all_notes.Given as goal

abbrev pub invariant-loop-index : goal.invariant-loop-index
invariant-loop-index l = record {
  numbers : map number_of l.notes.items ≡ range_with_len 1 l.index;
  classes : map told_by l.notes.items ≡ take l.index l.classes;
}
