-- Which run is found: pam.conf(5), DESCRIPTION.
use Rattle.std.specs.Prelude.{◌≡◌, ◌⊎◌, ℕ, ◌≤◌, IsTrue, List, MatchOption, Option, length}
use Rattle.pam_codes.specs.Set.{is_in}
use Rattle.pam_conf.specs.Stack.{Items, IsNumbered, module_count}
use Rattle.pam_dispatch.specs.Runs.{Assignment}
use Rattle.pam_graph.specs.declared.node.Edge.{Edge}
use Rattle.pam_graph.specs.declared.node.Node.{Node}
use Rattle.pam_graph.specs.Walks.{GraphValue, walks}
use Rattle.pam_paths.specs.Listing.{Allowance, IsAllowed, IsListing}
use Rattle.pam_paths.specs.Paths.{path_through}
use Rattle.pam_text.specs.Members.{Member}
use Rattle.pam_policy.specs.declared.search.query.Query.{Query}
use Rattle.pam_policy.specs.declared.search.run.Run.{Run}
use Rattle.pam_policy.specs.search.Queries.{Does}
use Rattle.pam_policy.specs.search.Runs.{ComesBefore, RunValue, run_of, run_value}

-- no answer is in the classes of two edges of a node
abbrev pub AreApart : List Node → Type 0
AreApart nodes =
    (node : Node) → Member node nodes → (one other : Edge) → Member one node.edges.items → Member other node.edges.items →
    (code : ℕ) → IsTrue (is_in code one.class) → IsTrue (is_in code other.class) → one ≡ other

-- a graph is that of the runs of a stack whose modules are numbered, as far as a knowledge allows them
pub record IsGraphOf (allows : Allowance) (items : Items) (graph : GraphValue) : Type 0 where
  pub numbered : IsNumbered items
  pub listing : IsListing allows (module_count items) (path_through items) (walks graph)
  pub apart : AreApart graph.nodes

-- A RUN THAT DOES WHAT A QUERY ASKS FOR, by answers that a knowledge allows
pub record IsFound (allows : Allowance) (items : Items) (query : Query) (run : RunValue) : Type 0 where
  pub answers : Assignment
  pub allowed : IsAllowed allows (module_count items) answers
  pub does : Does items query answers
  pub is_run : run ≡ run_of items answers

-- THE WITNESS: of all these runs that ask the fewest modules the one whose answers are shown first
pub record IsWitness (allows : Allowance) (items : Items) (query : Query) (run : RunValue) : Type 0 where
  pub found : IsFound allows items query run
  pub fewest : (other : RunValue) → IsFound allows items query other → length run.steps ≤ length other.steps
  pub first : (other : RunValue) → IsFound allows items query other → length other.steps ≡ length run.steps
      → (run ≡ other) ⊎ ComesBefore run.steps other.steps

-- what the result of a search says
abbrev pub SaysWitness : Allowance → Items → Query → Option Run → Type 0
SaysWitness allows items query found =
    MatchOption found ((run : RunValue) → IsFound allows items query run → ⊥) (λ run. IsWitness allows items query (run_value run))
