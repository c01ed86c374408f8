-- the number is that among the classes that are left
use Rattle.std.proofs.Common.{◌≡◌, ◌+◌, drop}
use Rattle.pam_drawing.specs.picture.Notes.{number_from}
use Rattle.pam_drawing.proofs.picture.layout.notes.number_of.Given as goal

abbrev pub invariant-loop-index : goal.invariant-loop-index
invariant-loop-index l = number_from (l.index + 1) (drop l.index l.classes) l.class ≡ number_from 1 l.classes l.class
