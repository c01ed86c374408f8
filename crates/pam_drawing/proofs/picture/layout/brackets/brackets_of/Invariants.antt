-- the brackets so far are over the first spans
use Rattle.std.proofs.Common.{◌≡◌, map, take}
use Rattle.pam_drawing.specs.picture.Columns.{reach_of}
use Rattle.pam_drawing.specs.picture.inner.Spaced.{ends_of, reach_in}
use Rattle.pam_drawing.proofs.picture.layout.brackets.brackets_of.Given as goal

abbrev pub invariant-loop-span : goal.invariant-loop-span
invariant-loop-span l = map reach_of l.brackets.items ≡ map (reach_in l.measures.spaces.now) (map ends_of (take l.span-index l.spans))
