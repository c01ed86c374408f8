use Rattle.std.proofs.Common.{◌≡◌, ◌≤◌, ℕ, true}
use Rattle.pam_changes.specs.Known.{is_alike_at}
use Rattle.pam_changes.specs.Sides.{sides_view}
use Rattle.pam_changes.proofs.known.are_there_alike.Given as goal

abbrev pub invariant-loop-index : goal.invariant-loop-index
invariant-loop-index l = (number : ℕ) → 1 ≤ number → number ≤ l.index → is_alike_at (sides_view l.sides) l.stack number ≡ true
