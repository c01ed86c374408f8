-- For private contracts and proofs alone: in how many ways runs come to each node, and to each decision.
use Rattle.std.specs.Prelude.{◌≡◌, ℕ, ◌+◌, ◌*◌, ◌<◌, Bool, List, [], ◌∷◌, filter, fold, length, map, slice_index_or, Option, None, Some}
use Rattle.pam_codes.specs.Code.{all_codes}
use Rattle.pam_codes.specs.declared.code.TheConstants.{CODES}
use Rattle.pam_graph.specs.declared.goal.Goal.TheVariants.{Decides}
use Rattle.pam_graph.specs.declared.node.Target.TheVariants.{End}
use Rattle.pam_graph.specs.Goals.{fit, meeting}
use Rattle.pam_graph.specs.inner.Tallies.{plus}
use Rattle.pam_graph.specs.Walks.{walks_to}
use Rattle.pam_paths.specs.Paths.{PathValue}

-- the number of the walks whose decision passes a test
unfoldable pub deciders : (ℕ → Bool) → List PathValue → ℕ
deciders test walks = length (filter (λ walk. test walk.decision) walks)

-- the sum of the products of numbers
unfoldable pub dot : List ℕ → List ℕ → ℕ
dot [] others = 0
dot (n ∷ ns) [] = 0
dot (n ∷ ns) (other ∷ others) = n * other + dot ns others

-- the walks from each end on, in the order of the codes: one each, which has no step
abbrev pub walks_at_ends : List (List PathValue)
walks_at_ends = map (λ code. walks_to [] (End code)) all_codes

-- of all walks, some have come to an end, and the others to nodes from which these walks are known: the numbers of those that
-- came to each end and each node, and the number of those that are on the way, account for all, whichever decisions are counted
pub record Accounts (all : List PathValue) (known : List (List PathValue)) (ends ways : List (Option ℕ)) (left : (ℕ → Bool) → ℕ) : Type 0 where
  pub at_ends : List ℕ
  pub at_nodes : List ℕ
  pub ends_are : ends ≡ map fit at_ends
  pub nodes_are : ways ≡ map fit at_nodes
  pub sum : (test : ℕ → Bool) →
      dot at_ends (map (deciders test) walks_at_ends) + dot at_nodes (map (deciders test) known) + left test ≡ deciders test all

-- the numbers of the walks that decide each code, whose sum is the number of all walks
pub record AreCounts (counts : List (Option ℕ)) (all : List PathValue) : Type 0 where
  pub few : length counts ≡ CODES
  pub each : (code : ℕ) → code < CODES → slice_index_or counts code None ≡ fit (length (meeting (Decides (code ∷ [])) all))
  pub whole : fold plus (Some 0) counts ≡ fit (length all)
