-- the states so far are those of the levels
use Rattle.std.proofs.Common.{◌≡◌, ◌<◌, ◌≤◌, ℕ, cond, false, get_or, length}
use Rattle.pam_dispatch.specs.State.{start_state}
use Rattle.pam_dispatch.proofs.entered.keep_levels.Given as goal

abbrev pub invariant-loop-level : goal.invariant-loop-level
invariant-loop-level l = record {
  long : length l.states ≡ 16;
  same : length l.initial.states ≡ 16;
  before : (n : ℕ) → n < l.level → get_or l.states n start_state ≡ cond (get_or l.levels n false) (get_or l.initial.states n start_state) start_state;
  after : (n : ℕ) → l.level ≤ n → get_or l.states n start_state ≡ get_or l.initial.states n start_state;
}
