use Rattle.std.proofs.Common.{◌≡◌, ◌==◌, ◌++◌, ℕ, List, false, length}
use Rattle.std.specs.List.{list_any}
use Rattle.pam_released.proofs.names.before_last_dot.Given as goal

abbrev pub invariant-loop-last : goal.invariant-loop-last
invariant-loop-last l = (tail : List ℕ) × (l.name ≡ l.front ++ tail) × (list_any (λ b. b == 46) tail ≡ false)

abbrev pub decreases-loop-last : goal.decreases-loop-last
decreases-loop-last l = length l.front
