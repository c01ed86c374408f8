-- For private contracts and proofs alone: the outcomes of a stack, as contracts see them.
use Rattle.std.specs.Prelude.{◌≡◌, ⊤, List, [], ◌∷◌, Option, None, Some, Result, Ok, Err, length, map}
use Rattle.pam_conf.specs.Stack.{Items, module_count}
use Rattle.pam_dispatch.specs.Flat.{runs_of}
use Rattle.pam_dispatch.specs.Tree.{runs_of_stack}
use Rattle.pam_dispatch.specs.declared.flat_item.FlatItem.{FlatItem}
use Rattle.pam_graph.specs.Goals.{fit}
use Rattle.pam_graph.specs.Reached.{HasMorePlaces}
use Rattle.pam_graph.specs.declared.graph.TheConstants.{MAX_NODES}
use Rattle.pam_paths.specs.Listing.{Allowance, IsListing}
use Rattle.pam_paths.specs.Paths.{PathValue, path_through}
use Rattle.pam_report.specs.declared.fault.Fault.{Fault}
use Rattle.pam_report.specs.declared.fault.Fault.TheVariants as faults
use Rattle.pam_report.specs.Outcomes as spec
use Rattle.pam_report.specs.ReplyViews.{outcome_view}
use Rattle.pam_report.specs.declared.report.outcomes.Outcomes.{Outcomes}

-- the value of an option, or none
abbrev pub as_list : {A B : Type 0} → (A → B) → Option A → List B
as_list view None = []
as_list view (Some x) = view x ∷ []

-- these are the outcomes of the paths of a listing
pub record AreOutcomes (outcomes : Outcomes) (paths : List PathValue) : Type 0 where
  pub found : map outcome_view outcomes.found.items ≡ spec.outcomes paths
  pub total : outcomes.total ≡ fit (length paths)

-- the outcomes of a stack whose modules may return these codes, or that its run comes to too many places, unless an
-- allocation failed
abbrev pub FindsOutcomes : Allowance → Items → Result Outcomes Fault → Type 0
FindsOutcomes allows items (Ok outcomes) =
    (paths : List PathValue) × IsListing allows (module_count items) (path_through items) paths × AreOutcomes outcomes paths
FindsOutcomes allows items (Err faults.Memory) = ⊤
FindsOutcomes allows items (Err faults.TooManyStates) =
    (program : List FlatItem) × (runs_of program ≡ runs_of_stack items) × HasMorePlaces MAX_NODES allows program
FindsOutcomes allows items (Err fault) = ⊥
