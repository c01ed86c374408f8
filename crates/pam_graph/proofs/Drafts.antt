-- Drafts of graphs to which a node was added, if there was room.
use Rattle.std.proofs.Common.{◌≡◌, ◌≤◌, ℕ, List, Result, Ok, Err, length}
use Rattle.std.specs.Prelude.{IfOk, OnOk}
use Rattle.pam_dispatch.specs.declared.flat_item.FlatItem.{FlatItem}
use Rattle.pam_dispatch.specs.declared.place.Place.{Place}
use Rattle.pam_dispatch.specs.Flat.{modules_of, rest_of}
use Rattle.pam_dispatch.specs.Keys.{DiffersFrom, KeyValue, rest_at}
use Rattle.pam_dispatch.specs.Runs.{AsksRise}
use Rattle.pam_graph.specs.declared.building.Draft.{Draft}
use Rattle.pam_graph.specs.declared.error.GraphError.{GraphError}
use Rattle.pam_graph.specs.declared.node.Target.{Target}
use Rattle.pam_graph.specs.inner.Building.{Continues, IsBefore, IsBuilt, IsDraft, IsExtended}
use Rattle.pam_graph.specs.inner.Caches.{AreCachesFor}
use Rattle.pam_graph.specs.Order.{IsAbove, numbers_of}
use Rattle.pam_graph.specs.Places.{AreEdgesAt, GoesOnAt}
use Rattle.pam_graph.specs.Reached.{AreReachedKeys}
use Rattle.pam_graph.specs.Walks.{walks_of, walks_to}
use Rattle.pam_paths.specs.Computed.{listing}
use Rattle.pam_paths.specs.Listing.{Allowance}

pub added-draft : (limit : ℕ) (allows : Allowance) (program : List FlatItem) (draft : Draft) (result : Result Target GraphError) →
    OnOk result (IsBuilt allows program draft.nodes.items draft.places) → AreCachesFor allows program draft.caches.items →
    OnOk result (AreReachedKeys allows program draft.places) → OnOk result (length draft.places ≤ limit) →
    OnOk result (AreEdgesAt allows program draft.places draft.places draft.nodes.items) → OnOk result (IsDraft limit allows program draft)
added-draft limit allows program draft (Ok target) built cached keys fits edges =
    record { built = built; cached = cached; keys = keys; fits = fits; edges = edges }
added-draft limit allows program draft (Err e) built cached keys fits edges = tt

pub added-continued : (allows : Allowance) (program : List FlatItem) (place : Place) (old new : Draft) (result : Result Target GraphError) →
    OnOk result (IsExtended old.nodes.items new.nodes.items) →
    ((key : KeyValue) → DiffersFrom key old.places → IsBefore (rest_at program key) (rest_of program place) →
    OnOk result (DiffersFrom key new.places)) →
    ((low : ℕ) → AsksRise low (modules_of program) (rest_of program place) → IfOk result (IsAbove (numbers_of new.nodes.items) low)) →
    IfOk result (λ target. walks_to (walks_of new.nodes.items) target ≡ listing allows (rest_of program place)) →
    OnOk result (IsExtended old.places new.places) → IfOk result (GoesOnAt program new.places (rest_of program place)) →
    IfOk result (Continues allows program place old new)
added-continued allows program place old new (Ok target) extended apart above walks kept leads =
    record { extended = extended; apart = apart; above = above; walks = walks; kept = kept; leads = leads }
added-continued allows program place old new (Err e) extended apart above walks kept leads = tt
