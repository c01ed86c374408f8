-- For private contracts and proofs alone: how many modules a run asks at least from each node of a graph on.
use Rattle.std.specs.Prelude.{◌≡◌, ◌⊎◌, ℕ, ◌<◌, ◌≤◌, true, List, [], ◌∷◌, ◌++◌, Some, length, slice_index_or}
use Rattle.pam_codes.specs.Set.{is_in}
use Rattle.pam_graph.specs.declared.node.Edge.{Edge}
use Rattle.pam_graph.specs.Walks.{walks_to}
use Rattle.pam_paths.specs.Listing.{Allowance}
use Rattle.pam_paths.specs.Paths.{PathValue, StepValue}
use Rattle.pam_text.specs.Members.{Member}
use Rattle.pam_policy.specs.declared.search.distances.TheConstants.{FAR}
use Rattle.pam_policy.specs.declared.search.query.Query.{Query}
use Rattle.pam_policy.specs.declared.search.run.Step.{Step}
use Rattle.pam_policy.specs.search.inner.Monitor.{EndsWell, after, first_state}
use Rattle.pam_policy.specs.search.Runs.{ComesBefore, RunValue}

-- RUNS ALONG WALKS

-- an answer of the module with this number, from a class, that a knowledge allows
pub record IsChosen (allows : Allowance) (number : ℕ) (class : List ℕ) (code : ℕ) : Type 0 where
  pub is_code : code < 31
  pub allowed : allows number code ≡ true
  pub among : is_in code class ≡ true

-- the answers of a run are chosen from the classes of a walk
unfoldable pub AreChosen : Allowance → List StepValue → List Step → Type 0
AreChosen allows [] [] = Unit {0}
AreChosen allows [] (step ∷ steps) = ⊥
AreChosen allows (from ∷ walk) [] = ⊥
AreChosen allows (from ∷ walk) (step ∷ steps) =
    (step.module_number ≡ from.module_number) × IsChosen allows from.module_number from.class step.code × AreChosen allows walk steps

-- a run along one of these walks ends well from a state on
pub record GoodAlong (allows : Allowance) (query : Query) (walks : List PathValue) (state : ℕ) (run : RunValue) : Type 0 where
  pub walk : PathValue
  pub member : Member walk walks
  pub chosen : AreChosen allows walk.steps run.steps
  pub decides : run.decision ≡ walk.decision
  pub good : EndsWell query state run.steps run.decision

-- a run does so after an answer
pub record GoodAfter (allows : Allowance) (query : Query) (walks : List PathValue) (number code state : ℕ) (rest : RunValue) : Type 0 where
  pub next : ℕ
  pub is_next : after query number code state ≡ Some next
  pub good : GoodAlong allows query walks next rest

-- a run does so after an answer of the class of an edge, from where the edge leads
pub record GoodBy (allows : Allowance) (query : Query) (known : List (List PathValue)) (number state : ℕ) (edge : Edge) (rest : RunValue) : Type 0 where
  pub code : ℕ
  pub chosen : IsChosen allows number edge.class code
  pub good : GoodAfter allows query (walks_to known edge.target) number code state rest

-- a run, with one step before its own, or several
abbrev pub after_answer : ℕ → ℕ → RunValue → RunValue
after_answer number code rest = record { steps = record { module_number = number; code = code } ∷ rest.steps; decision = rest.decision }

abbrev pub after_steps : List Step → RunValue → RunValue
after_steps steps rest = record { steps = steps ++ rest.steps; decision = rest.decision }

-- THE LEAST NUMBER OF MODULES that such runs ask; FAR if there is none
pub record IsLeast (Such : RunValue → Type 0) (distance : ℕ) : Type 0 where
  pub least : (run : RunValue) → Such run → distance ≤ length run.steps
  pub reached : distance < FAR → (run : RunValue) × Such run × (length run.steps ≡ distance)

abbrev pub IsDistance : Allowance → Query → List PathValue → ℕ → ℕ → Type 0
IsDistance allows query walks state distance = IsLeast (GoodAlong allows query walks state) distance

-- that of a node in a table, for a state
abbrev pub distance_at : List (List ℕ) → ℕ → ℕ → ℕ
distance_at far index state = slice_index_or (slice_index_or far index []) state 0

-- the distances of the first nodes; `known` are the walks from each node on
abbrev pub AreDistances : Allowance → Query → List (List PathValue) → List (List ℕ) → Type 0
AreDistances allows query known far =
    (index state : ℕ) → index < length far → state ≤ first_state query →
    IsDistance allows query (slice_index_or known index []) state (distance_at far index state)

-- THE FIRST of the runs that ask the fewest modules
pub record IsFirst (Such : RunValue → Type 0) (run : RunValue) : Type 0 where
  pub such : Such run
  pub fewest : (other : RunValue) → Such other → length run.steps ≤ length other.steps
  pub first : (other : RunValue) → Such other → length other.steps ≡ length run.steps → (run ≡ other) ⊎ ComesBefore run.steps other.steps
