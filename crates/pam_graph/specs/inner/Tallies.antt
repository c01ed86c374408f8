-- For private contracts and proofs alone: the numbers of the walks from each node on.
use Rattle.std.specs.Prelude.{ℕ, ◌+◌, nat_lt, Bool, true, false, ◌||◌, if◌then◌else◌, List, [], ◌∷◌, length, map, slice_index_or, Option, None, Some}
use Rattle.pam_codes.specs.Set.{is_in}
use Rattle.pam_graph.specs.declared.goal.Goal.{Goal}
use Rattle.pam_graph.specs.declared.goal.Goal.TheVariants.{Any, Decides, Asks, PastEnd}
use Rattle.pam_graph.specs.declared.node.Edge.{Edge}
use Rattle.pam_graph.specs.declared.node.Node.{Node}
use Rattle.pam_graph.specs.declared.node.Target.{Target}
use Rattle.pam_graph.specs.declared.node.Target.TheVariants.{At, End}
use Rattle.pam_graph.specs.declared.tally.Tally.{Tally}
use Rattle.pam_graph.specs.Goals.{asks_module, fit, gives_one}
use Rattle.pam_graph.specs.Walks.{walks_of}
use Rattle.pam_paths.specs.Paths.{PathValue, StepValue}
use Rattle.pam_graph.specs.Tallies.{wanted_of}

-- the step by an edge of a node whose module has this number
abbrev pub step_by : ℕ → Edge → StepValue
step_by number edge = record { module_number = number; class = edge.class }

-- whether a step meets the goal
abbrev pub met_by : Goal → StepValue → Bool
met_by Any step = false
met_by (Decides codes) step = false
met_by (Asks number) step = asks_module number step
met_by (PastEnd codes) step = gives_one codes step

-- whether it is met at the end of a run with this decision, if it was not met before
abbrev pub met_at_end : Goal → ℕ → Bool
met_at_end Any decision = true
met_at_end (Decides codes) decision = is_in decision codes
met_at_end (Asks number) decision = false
met_at_end (PastEnd codes) decision = false

-- the number of the wanted walks, if it fits
unfoldable pub number : Goal → Bool → List PathValue → Option ℕ
number goal is_met walks = fit (length (wanted_of goal is_met walks))

-- the numbers of some walks: of all, and of those that meet the goal
abbrev pub tally_of : Goal → List PathValue → Tally
tally_of goal walks = record { all = number goal true walks; met = number goal false walks }

-- those of the walks from each node on
abbrev pub tallies_of : Goal → List Node → List Tally
tallies_of goal nodes = map (tally_of goal) (walks_of nodes)

-- the sum of two numbers, if both are known and it fits
abbrev pub plus : Option ℕ → Option ℕ → Option ℕ
plus None other = None
plus (Some a) None = None
plus (Some a) (Some b) = fit (a + b)

-- whether there are walks, from their number
abbrev pub has_walks : Option ℕ → Bool
has_walks None = true
has_walks (Some n) = nat_lt 0 n

-- without meaning: what is read past the end of a table
abbrev pub no_tally : Tally
no_tally = record { all = Some 0; met = Some 0 }

abbrev pub tally_at : List Tally → ℕ → Tally
tally_at tallies index = slice_index_or tallies index no_tally

-- the number of the wanted walks from a target on, from those of each node
abbrev pub count_to : Goal → Bool → List Tally → Target → Option ℕ
count_to goal is_met tallies (At index) = if is_met then (tally_at tallies index).all else (tally_at tallies index).met
count_to goal is_met tallies (End decision) = if is_met || met_at_end goal decision then Some 1 else Some 0

-- a number, and those of the wanted walks that begin with these edges of a node whose module has a number
unfoldable pub sum_from : Goal → Bool → ℕ → List Tally → Option ℕ → List Edge → Option ℕ
sum_from goal is_met number tallies sum [] = sum
sum_from goal is_met number tallies sum (edge ∷ edges) =
    sum_from goal is_met number tallies (plus sum (count_to goal (is_met || met_by goal (step_by number edge)) tallies edge.target)) edges

-- the numbers of the walks from a node on
abbrev pub tally_by : Goal → List Tally → Node → Tally
tally_by goal tallies node = record {
  all = sum_from goal true node.module_number tallies (Some 0) node.edges.items;
  met = sum_from goal false node.module_number tallies (Some 0) node.edges.items;
}
