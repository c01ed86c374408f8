-- For private contracts and proofs alone: the codes that the walks from each node on decide, and the first walk that decides one.
use Rattle.std.specs.Prelude.{ℕ, ◌==◌, Bool, ◌||◌, List, [], ◌∷◌, ◌++◌, map, slice_get, slice_index_or, Option}
use Rattle.pam_codes.specs.Set.{codes_where, is_in}
use Rattle.pam_graph.specs.declared.goal.Goal.TheVariants.{Decides}
use Rattle.pam_graph.specs.declared.node.Edge.{Edge}
use Rattle.pam_graph.specs.declared.node.Node.{Node}
use Rattle.pam_graph.specs.declared.node.Target.{Target}
use Rattle.pam_graph.specs.declared.node.Target.TheVariants.{At, End}
use Rattle.pam_graph.specs.Goals.{decided, meeting}
use Rattle.pam_graph.specs.Walks.{walks_of}
use Rattle.pam_paths.specs.Paths.{PathValue, StepValue}

-- those of the walks from each node on
abbrev pub decided_of : List Node → List (List ℕ)
decided_of nodes = map decided (walks_of nodes)

-- some codes, and those that the walks from a target on decide, from those of each node
abbrev pub with_target : List (List ℕ) → List ℕ → Target → List ℕ
with_target known codes (At index) = codes_where (λ c. is_in c codes || is_in c (slice_index_or known index []))
with_target known codes (End decision) = codes_where (λ c. (c == decision) || is_in c codes)

-- some codes, and those of the walks that begin with these edges
unfoldable pub with_edges : List (List ℕ) → List ℕ → List Edge → List ℕ
with_edges known codes [] = codes
with_edges known codes (edge ∷ edges) = with_edges known (with_target known codes edge.target) edges

-- those of the walks from a node on
abbrev pub decided_by : List (List ℕ) → Node → List ℕ
decided_by known node = with_edges known [] node.edges.items

-- a walk from a target on decides a code
abbrev pub leads_to : List (List ℕ) → ℕ → Target → Bool
leads_to known code (At index) = is_in code (slice_index_or known index [])
leads_to known code (End decision) = code == decision

-- the first of the walks that decide a code
unfoldable pub first_deciding : ℕ → List PathValue → Option PathValue
first_deciding code paths = slice_get (meeting (Decides (code ∷ [])) paths) 0

-- a walk, with steps before its own
abbrev pub after_steps : List StepValue → PathValue → PathValue
after_steps steps walk = record { steps = steps ++ walk.steps; decision = walk.decision }
