-- For private contracts and proofs alone: whose success counts, by the nodes of a graph.
use Rattle.std.specs.Prelude.{◌≡◌, ℕ, ◌≤◌, ◌==◌, Bool, true, false, ◌&&◌, not, List, [], slice_index_or}
use Rattle.std.specs.List.{list_any}
use Rattle.pam_codes.specs.Set.{is_in}
use Rattle.pam_conf.specs.Stack.{Items}
use Rattle.pam_dispatch.specs.State.{success}
use Rattle.pam_graph.specs.declared.node.Edge.{Edge}
use Rattle.pam_graph.specs.declared.node.Node.{Node}
use Rattle.pam_graph.specs.declared.node.Target.{Target}
use Rattle.pam_graph.specs.declared.node.Target.TheVariants.{At, End}
use Rattle.pam_graph.specs.Walks.{table}
use Rattle.pam_paths.specs.Listing.{Allowance}
use Rattle.pam_findings.specs.stack.Counting.{Counts}
use Rattle.pam_findings.specs.stack.inner.Marks.{mark_of}

-- some walk from a target on decides success; `known` says it of the walks from each node on
abbrev pub reaches_success : List Bool → Target → Bool
reaches_success known (At index) = slice_index_or known index false
reaches_success known (End decision) = decision == success

abbrev pub leads_to_success : List Bool → Edge → Bool
leads_to_success known edge = reaches_success known edge.target

abbrev pub node_succeeds : List Bool → Node → Bool
node_succeeds known node = list_any (leads_to_success known) node.edges.items

-- whether some walk from each node on decides success
abbrev pub succeeding : List Node → List Bool
succeeding nodes = table node_succeeds [] nodes

-- success is an answer by which a walk goes on to the decision success
abbrev pub success_counts : List Bool → Edge → Bool
success_counts known edge = is_in success edge.class && leads_to_success known edge

-- so it is at a node, whose module has this number
abbrev pub counts_at : List Bool → ℕ → Node → Bool
counts_at known number node = (number == node.module_number) && list_any (success_counts known) node.edges.items

abbrev pub some_counts : List Bool → ℕ → List Node → Bool
some_counts known number nodes = list_any (counts_at known number) nodes

-- what the mark of a module that may answer success says
abbrev pub SaysCounts : Allowance → Items → ℕ → Bool → Type 0
SaysCounts allows items number true = Counts allows items number
SaysCounts allows items number false = Counts allows items number → ⊥

-- the marks of the modules of a stack whose success counts; of one that may not answer success a mark says nothing
abbrev pub AreCounting : Allowance → Items → List Bool → Type 0
AreCounting allows items marks = (number : ℕ) → 1 ≤ number → allows number success ≡ true → SaysCounts allows items number (mark_of marks number)

-- a module is asked and may answer success, which does not count; by the marks of the modules that are asked, and of those that count
abbrev pub never_counts : Allowance → List Bool → List Bool → ℕ → Bool
never_counts allows asked counting number = mark_of asked number && (allows number success && not (mark_of counting number))
