use Rattle.std.proofs.Common.{◌≡◌, ◌∷◌, ◌++◌}
use Rattle.pam_released.proofs.reading.module_body.Given as goal

abbrev pub invariant-loop-argument : goal.invariant-loop-argument
invariant-loop-argument l = record {
  can : (goal.iterator-loop-argument).can_next l.argument-iterator;
  finite : (goal.iterator-loop-argument).is_finite l.argument-iterator;
  words : l.path ∷ (l.arguments ++ l.argument-iterator) ≡ l.fn.words;
}
