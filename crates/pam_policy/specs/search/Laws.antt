-- What the definitions imply.
use Rattle.std.specs.Prelude.{◌≡◌, ℕ, ◌≤◌, true, [], List}
use Rattle.pam_conf.specs.Stack.{Items, IsNumbered, module_count}
use Rattle.pam_dispatch.specs.declared.flat_item.FlatItem.{FlatItem}
use Rattle.pam_graph.specs.Order.{AreNodes}
use Rattle.pam_graph.specs.Places.{AreEdgesOf}
use Rattle.pam_graph.specs.Walks.{GraphValue, walks}
use Rattle.pam_paths.specs.Listing.{Allowance, IsListing}
use Rattle.pam_paths.specs.Paths.{path_through}
use Rattle.pam_policy.specs.declared.search.query.Query.{Query}
use Rattle.pam_policy.specs.declared.search.query.TheConstants.{MAX_TOGETHER}
use Rattle.pam_policy.specs.search.Runs.{RunValue}
use Rattle.pam_policy.specs.search.Witness.{IsFound, IsGraphOf, IsWitness}

-- one knowledge allows only what the other allows
abbrev pub AllowsNoMore : Allowance → Allowance → ℕ → Type 0
AllowsNoMore one other n = (number code : ℕ) → 1 ≤ number → number ≤ n → one number code ≡ true → other number code ≡ true

-- what a graph says of its program and stack makes it that of the stack's runs
abbrev pub GraphsOfPrograms : Type 0
GraphsOfPrograms =
    (allows : Allowance) (program : List FlatItem) (items : Items) (graph : GraphValue) →
    IsNumbered items → IsListing allows (module_count items) (path_through items) (walks graph) → AreNodes [] graph.nodes →
    AreEdgesOf allows program graph → IsGraphOf allows items graph

-- a run that is found where less is allowed is found where more is; so what is found nowhere stays so where less is allowed
abbrev pub MoreAllowedFinds : Type 0
MoreAllowedFinds =
    (less more : Allowance) (items : Items) (query : Query) (run : RunValue) → AllowsNoMore less more (module_count items) →
    IsFound less items query run → IsFound more items query run

-- there is at most one witness
abbrev pub OneWitness : Type 0
OneWitness =
    (allows : Allowance) (items : Items) (query : Query) (one other : RunValue) → IsWitness allows items query one →
    IsWitness allows items query other → one ≡ other

-- the most events that a query can want together
abbrev pub MostTogether : Type 0
MostTogether = MAX_TOGETHER ≡ 4
