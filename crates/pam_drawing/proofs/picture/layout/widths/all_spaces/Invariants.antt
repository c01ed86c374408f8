-- a column for each number so far, each right of those before it, and the next one right of them
use Rattle.std.proofs.Common.{◌≡◌, ◌+◌, [], ◌∷◌, ◌++◌, length}
use Rattle.std.specs.List.{AllPairs}
use Rattle.pam_drawing.specs.picture.Columns.{IsLeftOf}
use Rattle.pam_drawing.proofs.picture.layout.widths.all_spaces.Given as goal

abbrev pub invariant-loop-number : goal.invariant-loop-number
invariant-loop-number l = record {
  count : length l.starts.items + 1 ≡ l.number;
  order : AllPairs IsLeftOf (l.starts.items ++ l.end ∷ []);
}
