-- For private contracts and proofs alone: a graph of a stack that is found, or why there is none.
use Rattle.std.specs.Prelude.{◌≡◌, ⊤, List, Result, Ok, Err}
use Rattle.pam_conf.specs.Stack.{Items, module_count}
use Rattle.pam_dispatch.specs.Flat.{runs_of}
use Rattle.pam_dispatch.specs.Tree.{runs_of_stack}
use Rattle.pam_dispatch.specs.declared.flat_item.FlatItem.{FlatItem}
use Rattle.pam_graph.specs.Places.{AreEdgesOf}
use Rattle.pam_graph.specs.Reached.{HasMorePlaces}
use Rattle.pam_graph.specs.Walks.{GraphValue, walks}
use Rattle.pam_graph.specs.declared.graph.TheConstants.{MAX_NODES}
use Rattle.pam_paths.specs.Listing.{Allowance, IsListing}
use Rattle.pam_paths.specs.Paths.{path_through}
use Rattle.pam_report.specs.declared.fault.Fault.{Fault}
use Rattle.pam_report.specs.declared.fault.Fault.TheVariants as faults

-- a graph of the runs of a stack whose modules may return these codes, or that these come to too many places, unless an
-- allocation failed
abbrev pub FindsGraph : Allowance → Items → Result GraphValue Fault → Type 0
FindsGraph allows items (Ok graph) =
    IsListing allows (module_count items) (path_through items) (walks graph)
    × ((program : List FlatItem) × (runs_of program ≡ runs_of_stack items) × AreEdgesOf allows program graph)
FindsGraph allows items (Err faults.Memory) = ⊤
FindsGraph allows items (Err faults.TooManyStates) =
    (program : List FlatItem) × (runs_of program ≡ runs_of_stack items) × HasMorePlaces MAX_NODES allows program
FindsGraph allows items (Err fault) = ⊥
