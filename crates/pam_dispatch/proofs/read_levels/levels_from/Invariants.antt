-- the levels so far that are above the item's are not read
use Rattle.std.proofs.Common.{◌≡◌, ◌<◌, ◌≤◌, ℕ, false, get_or, length}
use Rattle.pam_dispatch.proofs.read_levels.levels_from.Given as goal

abbrev pub invariant-loop-level : goal.invariant-loop-level
invariant-loop-level l = record {
  long : length l.levels ≡ length l.after;
  low : (n : ℕ) → n ≤ l.here → get_or l.levels n false ≡ get_or l.after n false;
  high : (n : ℕ) → l.here < n → n < l.level → get_or l.levels n false ≡ false;
}
