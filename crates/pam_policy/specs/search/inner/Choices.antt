-- For private contracts and proofs alone: the answer with which a run goes on.
use Rattle.std.specs.Prelude.{◌≡◌, ℕ, ◌≤◌, nat_lt, if◌then◌else◌, List, MatchOption, Option, None, Some}
use Rattle.pam_graph.specs.declared.node.Edge.{Edge}
use Rattle.pam_graph.specs.declared.node.Target.{Target}
use Rattle.pam_graph.specs.Walks.{walks_to}
use Rattle.pam_paths.specs.Known.{may_answer}
use Rattle.pam_paths.specs.Paths.{PathValue}
use Rattle.pam_text.specs.Members.{Member}
use Rattle.pam_policy.specs.declared.search.distances.Search.{Search}
use Rattle.pam_policy.specs.declared.search.walking.Choice.{Choice}
use Rattle.pam_policy.specs.search.inner.Distances.{IsChosen}
use Rattle.pam_policy.specs.search.inner.Monitor.{after}
use Rattle.pam_policy.specs.search.inner.Searches.{IsLeastFrom}
use Rattle.pam_policy.specs.search.Runs.{rank}

-- a choice of this answer of the module with this number leads to a target, from where in the state after it a run asks at least
-- this many modules
pub record IsChoiceAt (search : Search) (known : List (List PathValue)) (number code state distance : ℕ) (target : Target) (choice : Choice) : Type 0 where
  pub same_code : choice.code ≡ code
  pub leads : choice.target ≡ target
  pub is_next : after search.query.now number code state ≡ Some choice.state
  pub is_distance : IsLeastFrom search (walks_to known target) choice.state distance

abbrev pub SaysChoice : Search → List (List PathValue) → ℕ → ℕ → ℕ → ℕ → Target → Option Choice → Type 0
SaysChoice search known number code state distance target found =
    MatchOption found ((choice : Choice) → IsChoiceAt search known number code state distance target choice → ⊥)
    (IsChoiceAt search known number code state distance target)

-- A CHOICE by one of some edges of a node whose module has this number
pub record IsChoice (search : Search) (known : List (List PathValue)) (number state distance : ℕ) (edges : List Edge) (choice : Choice) : Type 0 where
  pub edge : Edge
  pub edge_in : Member edge edges
  pub chosen : IsChosen (may_answer search.known.now) number edge.class choice.code
  pub at : IsChoiceAt search known number choice.code state distance edge.target choice

-- the first of two choices, if there is one
abbrev pub first_of : Option Choice → Option Choice → Option Choice
first_of None other = other
first_of (Some one) None = Some one
first_of (Some one) (Some other) = if nat_lt (rank other.code) (rank one.code) then Some other else Some one

-- a choice is the first of those of which something holds; there is one if it holds of any
abbrev pub IsFirstOf : (Choice → Type 0) → (Choice → Type 0) → Option Choice → Type 0
IsFirstOf Such Among found =
    MatchOption found ((choice : Choice) → Among choice → ⊥) (λ first. Such first × ((choice : Choice) → Among choice → rank first.code ≤ rank choice.code))

-- it is the first of all choices by some edges
abbrev pub IsFirstChoice : Search → List (List PathValue) → ℕ → ℕ → ℕ → List Edge → Option Choice → Type 0
IsFirstChoice search known number state distance edges found =
    IsFirstOf (IsChoice search known number state distance edges) (IsChoice search known number state distance edges) found
