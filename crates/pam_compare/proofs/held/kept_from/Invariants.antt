use Rattle.std.proofs.Common.{◌≡◌, ◌+◌, ◌≤◌, ℕ, Some, length, slice_get, true}
use Rattle.pam_compare.specs.declared.held.HeldAnswer.{HeldAnswer}
use Rattle.pam_compare.specs.inner.Held.{AreTables, IsNumber, is_wanted}
use Rattle.pam_compare.proofs.held.kept_from.Given as goal

abbrev pub invariant-loop-back : goal.invariant-loop-back
invariant-loop-back l =
    (modules : ℕ) → AreTables l.naming modules → IsNumber l.step.new → (i : ℕ) (h : HeldAnswer) → slice_get l.held i ≡ Some h →
    length l.held ≤ i + l.back → is_wanted l.naming.names.items l.naming.old_modules modules l.name l.step.old l.step.new h.name ≡ true
