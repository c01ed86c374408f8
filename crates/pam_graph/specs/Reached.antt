-- The places to which the runs of a program can come: pam.conf(5), DESCRIPTION.
use Rattle.std.specs.Prelude.{◌≡◌, ℕ, ◌<◌, true, List, [], ◌∷◌, IsSome, length}
use Rattle.pam_dispatch.specs.declared.flat_item.FlatItem.{FlatItem}
use Rattle.pam_dispatch.specs.declared.place.Place.{Place}
use Rattle.pam_dispatch.specs.Flat.{IsPlaceOf, rest_of, runs_of}
use Rattle.pam_dispatch.specs.Keys.{AreDifferent, KeyValue, key_of}
use Rattle.pam_dispatch.specs.Representatives.{representative_of}
use Rattle.pam_dispatch.specs.Runs.{Runs, after_answer, asked_module, ends, asks, outcome_of}
use Rattle.pam_graph.specs.declared.error.GraphError.{GraphError}
use Rattle.pam_graph.specs.declared.error.GraphError.TheVariants.{Memory, TooManyNodes}
use Rattle.pam_paths.specs.Listing.{Allowance}

-- what is left of a run after these answers of the modules that it asks, in turn
unfoldable pub after_answers : Runs → List ℕ → Runs
after_answers runs [] = runs
after_answers runs (code ∷ codes) = after_answers (after_answer runs code) codes

-- each answer is a code that the knowledge allows the module that is asked
unfoldable pub AreAllowed : Allowance → Runs → List ℕ → Type 0
AreAllowed allows runs [] = Unit {0}
AreAllowed allows (ends s) (code ∷ codes) = ⊥
AreAllowed allows (asks ask next) (code ∷ codes) =
    (code < 31) × (allows ask.module_number code ≡ true) × AreAllowed allows (next (outcome_of ask code)) codes

-- allowed answers lead the run of a program to a place
abbrev pub IsReached : Allowance → List FlatItem → Place → Type 0
IsReached allows program place =
    (answers : List ℕ) × AreAllowed allows (runs_of program) answers
    × (rest_of program place ≡ after_answers (runs_of program) answers)

-- the key of the node for a place: that of its representative, so places that differ only in entry states which no reset can still
-- read have one node
abbrev pub node_key : List FlatItem → Place → KeyValue
node_key program place = key_of (representative_of program place)

-- a key is that of the node for a place of the program at which a module is asked, to which allowed answers lead
pub record IsReachedKey (allows : Allowance) (program : List FlatItem) (key : KeyValue) : Type 0 where
  pub place : Place
  pub is_place : IsPlaceOf program place
  pub asks : IsSome (asked_module (rest_of program place))
  pub reached : IsReached allows program place
  pub is_key : key ≡ node_key program place

unfoldable pub AreReachedKeys : Allowance → List FlatItem → List KeyValue → Type 0
AreReachedKeys allows program [] = Unit {0}
AreReachedKeys allows program (key ∷ keys) = IsReachedKey allows program key × AreReachedKeys allows program keys

-- THERE ARE MORE PLACES THAN A LIMIT: more different keys of nodes for places to which allowed answers lead
abbrev pub HasMorePlaces : ℕ → Allowance → List FlatItem → Type 0
HasMorePlaces limit allows program =
    (keys : List KeyValue) × (limit < length keys) × AreDifferent keys × AreReachedKeys allows program keys

-- why there is no graph
abbrev pub IsReason : ℕ → Allowance → List FlatItem → GraphError → Type 0
IsReason limit allows program Memory = Unit {0}
IsReason limit allows program TooManyNodes = HasMorePlaces limit allows program
