-- the distances of the states so far
use Rattle.std.proofs.Common.{◌≡◌, ℕ, ◌<◌, List, length, slice_index_or}
use Rattle.pam_graph.specs.Walks.{walks_at}
use Rattle.pam_paths.specs.Paths.{PathValue}
use Rattle.pam_policy.specs.search.inner.Searches.{IsLeastFrom, Knows}
use Rattle.pam_policy.proofs.search.distances.Search.distances_from.Given as goal

abbrev pub invariant-loop-state : goal.invariant-loop-state
invariant-loop-state l = record {
  len : length l.distances ≡ 16;
  far : (known : List (List PathValue)) → Knows l.self known → (state : ℕ) → state < l.state →
      IsLeastFrom l.self (walks_at known l.node) state (slice_index_or l.distances state 0);
}
