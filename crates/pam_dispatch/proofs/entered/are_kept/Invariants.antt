-- the states so far are those that are kept
use Rattle.std.proofs.Common.{◌≡◌, ◌<◌, ℕ, cond, false, get_or}
use Rattle.pam_dispatch.specs.State.{start_state}
use Rattle.pam_dispatch.proofs.entered.are_kept.Given as goal

abbrev pub invariant-loop-level : goal.invariant-loop-level
invariant-loop-level l = (n : ℕ) → n < l.level →
    get_or l.kept n start_state ≡ cond (get_or l.levels n false) (get_or l.states n start_state) start_state
