-- A run that can be in more states than a graph holds: pam.conf(5), DESCRIPTION.
use Rattle.std.specs.Prelude.{◌≡◌, List}
use Rattle.pam_conf.specs.Stack.{Items, module_count}
use Rattle.pam_dispatch.specs.Flat.{runs_of}
use Rattle.pam_dispatch.specs.Tree.{runs_of_stack}
use Rattle.pam_dispatch.specs.declared.flat_item.FlatItem.{FlatItem}
use Rattle.pam_graph.specs.Reached.{HasMorePlaces}
use Rattle.pam_graph.specs.declared.graph.TheConstants.{MAX_NODES}
use Rattle.pam_facts.specs.known.Knowledge.{Agree}
use Rattle.pam_paths.specs.Listing.{Allowance}

-- the run of a stack comes to more places than a graph may have nodes, if modules return codes that are allowed
abbrev pub IsTooLarge : Items → Allowance → Type 0
IsTooLarge items allows =
    (program : List FlatItem) × (other : Allowance) × (runs_of program ≡ runs_of_stack items) × Agree (module_count items) other allows
    × HasMorePlaces MAX_NODES other program
