-- What a layout has a place for.
use Rattle.std.specs.Prelude.{◌≡◌, ℕ, ◌+◌, List, [], length, map}
use Rattle.std.specs.List.{range_with_len}
use Rattle.std.specs.Option.{option_map_or}
use Rattle.pam_codes.specs.ControlText.{control_text}
use Rattle.pam_codes.specs.declared.code.TheConstants.{CODES}
use Rattle.pam_conf.specs.Stack.{Items, ModuleText, module_at, module_count}
use Rattle.pam_graph.specs.Walks.{GraphValue}
use Rattle.pam_graph.specs.declared.node.Node.{Node}
use Rattle.pam_drawing.specs.picture.Columns.{HasColumns}
use Rattle.pam_drawing.specs.picture.Lanes.{HasLanes}
use Rattle.pam_drawing.specs.picture.Notes.{HasNotes}
use Rattle.pam_drawing.specs.picture.Places.{bytes_of}
use Rattle.pam_drawing.specs.declared.picture.layout.Layout.{Layout}
use Rattle.pam_drawing.specs.declared.picture.layout.shapes.Place.{Place}

-- the control of the module after this many modules
abbrev pub written_control : Items → ℕ → List ℕ
written_control items index = option_map_or (λ (m : ModuleText). control_text m.control) (module_at (index + 1) items) []

abbrev pub edges_of : Node → ℕ
edges_of node = length node.edges.items

abbrev pub routes_of : Place → ℕ
routes_of place = length place.routes.items

-- each node has a place, each of its edges a way, and each decision a place
pub record HasPlaces (graph : GraphValue) (layout : Layout) : Type 0 where
  pub nodes : map routes_of layout.places.items ≡ map edges_of graph.nodes
  pub ends : length layout.ends.items ≡ CODES

-- A LAYOUT of the picture of a graph of a stack: also each module has a column, and its control as it is written; there are the notes
-- that the labels refer to, and the lanes for the states of the nodes and ends
pub record IsLayoutOf (items : Items) (graph : GraphValue) (layout : Layout) : Type 0 where
  pub columns : HasColumns items graph layout
  pub controls : map bytes_of layout.controls.items ≡ map (written_control items) (range_with_len 0 (module_count items))
  pub places : HasPlaces graph layout
  pub notes : HasNotes graph.nodes layout
  pub lanes : HasLanes graph layout
