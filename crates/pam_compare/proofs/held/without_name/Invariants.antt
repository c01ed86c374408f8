use Rattle.std.proofs.Common.{◌≡◌, ◌≢◌, ◌+◌, ◌≤◌, ℕ, Some, length, slice_get}
use Rattle.pam_compare.specs.declared.held.HeldAnswer.{HeldAnswer}
use Rattle.pam_compare.proofs.held.without_name.Given as goal

abbrev pub invariant-loop-back : goal.invariant-loop-back
invariant-loop-back l = (i : ℕ) (h : HeldAnswer) → slice_get l.held i ≡ Some h → length l.held ≤ i + l.back → h.name ≢ l.name
