-- the codes that are left are answers of the edge, and the least is that of those that are not left
use Rattle.std.proofs.Common.{◌≡◌, ℕ, List, length, true}
use Rattle.pam_codes.specs.Set.{is_in}
use Rattle.pam_paths.specs.Known.{may_answer}
use Rattle.pam_paths.specs.Paths.{PathValue}
use Rattle.pam_policy.specs.search.inner.Distances.{GoodBy, IsChosen}
use Rattle.pam_policy.specs.search.inner.Searches.{Knows}
use Rattle.pam_policy.proofs.SearchProofs.Nodes.{IsLeastOf, IsTaken}
use Rattle.pam_policy.proofs.search.distances.Search.distance_by.Given as goal

abbrev pub invariant-loop-code : goal.invariant-loop-code
invariant-loop-code l = record {
  may : (code : ℕ) → is_in code l.left ≡ true → IsChosen (may_answer l.self.known.now) l.number l.edge.class code;
  least : (known : List (List PathValue)) → Knows l.self known →
      IsLeastOf (GoodBy (may_answer l.self.known.now) l.self.query.now known l.number l.state l.edge)
      (IsTaken (may_answer l.self.known.now) l.self.query.now known l.number l.state l.edge l.left) l.least;
}

abbrev pub decreases-loop-code : goal.decreases-loop-code
decreases-loop-code l = length l.left
