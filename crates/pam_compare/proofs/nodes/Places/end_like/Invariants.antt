use Rattle.std.proofs.Common.{◌≡◌, ◌≢◌, ◌<◌, ℕ, List, Some, slice_get}
use Rattle.pam_dispatch.specs.declared.flat_item.FlatItem.{FlatItem}
use Rattle.pam_dispatch.specs.declared.place.Place.{Place}
use Rattle.pam_dispatch.specs.Flat.{IsPlaceOf, rest_of}
use Rattle.pam_dispatch.specs.Runs.{state_in}
use Rattle.pam_compare.specs.inner.Nodes.{ArePlaces}
use Rattle.pam_compare.proofs.nodes.Places.end_like.Given as goal

abbrev pub invariant-loop-index : goal.invariant-loop-index
invariant-loop-index l =
    (program : List FlatItem) → ArePlaces program l.self.places.items l.self.keys → IsPlaceOf program l.place →
    (m k : ℕ) (p : Place) → m < l.index → slice_get l.self.ends.items m ≡ Some k → slice_get l.self.places.items k ≡ Some p →
    state_in (rest_of program p) ≢ state_in (rest_of program l.place)
