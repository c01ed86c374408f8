-- Where the shapes of a picture are, by what they show. What a layout leaves out is at the upper left corner.
use Rattle.std.specs.Prelude.{ℕ, List, [], Vec, slice_get, slice_index_or}
use Rattle.std.specs.Global.{Global}
use Rattle.std.specs.Option.{option_map_or}
use Rattle.pam_graph.specs.declared.node.Target.{Target}
use Rattle.pam_graph.specs.declared.node.Target.TheVariants.{At, End}
use Rattle.pam_drawing.specs.declared.picture.layout.Layout.{Layout}
use Rattle.pam_drawing.specs.declared.picture.layout.shapes.Bend.{Bend}
use Rattle.pam_drawing.specs.declared.picture.layout.shapes.EndPlace.{EndPlace}
use Rattle.pam_drawing.specs.declared.picture.layout.shapes.Place.{Place}
use Rattle.pam_drawing.specs.declared.picture.layout.shapes.Point.{Point}
use Rattle.pam_drawing.specs.declared.picture.layout.shapes.Route.{Route}

-- the bytes of a text that is kept
abbrev pub bytes_of : Vec ℕ Global → List ℕ
bytes_of text = text.items

abbrev pub origin : Point
origin = record { x = 0; y = 0 }

abbrev pub no_bend : Bend
no_bend = record { from = 0; middle = 0; to = 0; height = 0 }

abbrev pub no_route : Route
no_route = record { fan = no_bend; turn = no_bend; landing = no_bend; note = 0 }

-- the column after this many columns
abbrev pub column_at : Layout → ℕ → ℕ
column_at layout index = slice_index_or layout.columns.items index 0

-- the control of the module after this many modules
abbrev pub control_at : Layout → ℕ → List ℕ
control_at layout index = option_map_or bytes_of (slice_get layout.controls.items index) []

-- the way of an edge, by its node's index and its own
abbrev pub route_at : Layout → ℕ → ℕ → Route
route_at layout index edge = option_map_or (λ (place : Place). slice_index_or place.routes.items edge no_route) (slice_get layout.places.items index) no_route

abbrev pub point_at : Layout → ℕ → Point
point_at layout index = option_map_or (λ (place : Place). place.point) (slice_get layout.places.items index) origin

abbrev pub no_end : EndPlace
no_end = record { point = origin; width = 0 }

abbrev pub end_at : Layout → ℕ → EndPlace
end_at layout decision = slice_index_or layout.ends.items decision no_end

abbrev pub point_of : Layout → Target → Point
point_of layout (At index) = point_at layout index
point_of layout (End decision) = (end_at layout decision).point
