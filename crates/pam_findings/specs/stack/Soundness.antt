-- What a stack does to everybody, whatever its modules answer: pam.conf(5), DESCRIPTION.
use Rattle.std.specs.Prelude.{◌≡◌, ◌⊎◌, true, false, Bool, List, MatchOption, Option}
use Rattle.pam_conf.specs.Stack.{Items, module_count}
use Rattle.pam_dispatch.specs.declared.flat_item.FlatItem.{FlatItem}
use Rattle.pam_dispatch.specs.Flat.{runs_of}
use Rattle.pam_dispatch.specs.Runs.{Assignment}
use Rattle.pam_dispatch.specs.State.{success}
use Rattle.pam_dispatch.specs.Tree.{decided, runs_of_stack}
use Rattle.pam_graph.specs.declared.error.GraphError.{GraphError}
use Rattle.pam_graph.specs.declared.error.GraphError.TheVariants.{Memory, TooManyNodes}
use Rattle.pam_graph.specs.declared.graph.TheConstants.{MAX_NODES}
use Rattle.pam_graph.specs.Reached.{HasMorePlaces}
use Rattle.pam_paths.specs.Listing.{Allowance, IsAllowed, IsAllowedPath}
use Rattle.pam_paths.specs.Paths.{PathValue, Precedes, key, path_through}

-- WHO IS LET IN

-- some allowed answers make the stack decide success
pub record LetsIn (allows : Allowance) (items : Items) : Type 0 where
  pub answers : Assignment
  pub allowed : IsAllowed allows (module_count items) answers
  pub decides : decided items answers ≡ success

-- S1: no allowed answers do
abbrev pub LetsNobodyIn : Allowance → Items → Type 0
LetsNobodyIn allows items = LetsIn allows items → ⊥

-- whether nobody is let in
abbrev pub SaysNobody : Allowance → Items → Bool → Type 0
SaysNobody allows items true = LetsNobodyIn allows items
SaysNobody allows items false = LetsIn allows items

-- THE FIRST WAY IN: a path that allowed answers take to success, and each other path that some take there comes after it
pub record IsFirstWayIn (allows : Allowance) (items : Items) (path : PathValue) : Type 0 where
  pub way : IsAllowedPath allows (module_count items) (path_through items) path
  pub decides : path.decision ≡ success
  pub first : (answers : Assignment) → IsAllowed allows (module_count items) answers → decided items answers ≡ success
      → (path ≡ path_through items answers) ⊎ Precedes (key path) (key (path_through items answers))

-- S2: the first way in, if there is one
abbrev pub SaysWayIn : Allowance → Items → Option PathValue → Type 0
SaysWayIn allows items way = MatchOption way (LetsNobodyIn allows items) (IsFirstWayIn allows items)

-- WHY NOTHING IS SAID OF A STACK

-- allowed answers lead its runs to more different places than a graph has nodes
abbrev pub HasTooManyPlaces : Allowance → Items → Type 0
HasTooManyPlaces allows items =
    (program : List FlatItem) × (runs_of program ≡ runs_of_stack items) × HasMorePlaces MAX_NODES allows program

abbrev pub IsReasonFor : Allowance → Allowance → Items → GraphError → Type 0
IsReasonFor free failing items Memory = Unit {0}
IsReasonFor free failing items TooManyNodes = HasTooManyPlaces free items ⊎ HasTooManyPlaces failing items
