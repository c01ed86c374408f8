-- the codes that are left are answers of the edge, and the first choice is that of those that are not left
use Rattle.std.proofs.Common.{◌≡◌, ◌∷◌, [], List, length, true, ℕ}
use Rattle.pam_codes.specs.Set.{is_in}
use Rattle.pam_paths.specs.Known.{may_answer}
use Rattle.pam_paths.specs.Paths.{PathValue}
use Rattle.pam_policy.specs.search.inner.Choices.{IsChoice, IsFirstOf}
use Rattle.pam_policy.specs.search.inner.Distances.{IsChosen}
use Rattle.pam_policy.specs.search.inner.Searches.{Knows}
use Rattle.pam_policy.proofs.SearchProofs.Best.{IsTakenChoice}
use Rattle.pam_policy.proofs.search.distances.Search.choice_by.Given as goal

abbrev pub invariant-loop-code : goal.invariant-loop-code
invariant-loop-code l = record {
  may : (code : ℕ) → is_in code l.left ≡ true → IsChosen (may_answer l.self.known.now) l.number l.edge.class code;
  first : (known : List (List PathValue)) → Knows l.self known →
      IsFirstOf (IsChoice l.self known l.number l.state l.distance (l.edge ∷ []))
      (IsTakenChoice l.self known l.number l.state l.distance l.edge l.left) l.first;
}

abbrev pub decreases-loop-code : goal.decreases-loop-code
decreases-loop-code l = length l.left
