-- the numbers so far
use Rattle.std.proofs.Common.{◌≡◌, take}
use Rattle.pam_drawing.proofs.picture.layout.table.copied.Given as goal

abbrev pub invariant-loop-number : goal.invariant-loop-number
invariant-loop-number l = l.copy.items ≡ take l.number-index l.numbers
