-- the sets so far are those that were found, and the others are empty
use Rattle.std.proofs.Common.{◌≡◌, ◌<◌, ◌≤◌, ℕ, [], get_or, length}
use Rattle.pam_graph.proofs.past_ends.by_number.Given as goal

abbrev pub invariant-loop-index : goal.invariant-loop-index
invariant-loop-index l = record {
  before : (n : ℕ) → n < l.index → get_or l.codes n [] ≡ get_or l.found n [];
  after : (n : ℕ) → l.index ≤ n → get_or l.codes n [] ≡ [];
  long : length l.codes ≡ 256;
}
