-- For private contracts and proofs alone: the columns, as they are laid out.
use Rattle.std.specs.Prelude.{◌≡◌, ℕ, ◌+◌, ◌-◌, List, map, slice_index_or}
use Rattle.std.specs.List.{range_with_len}
use Rattle.pam_codes.specs.declared.code.TheConstants.{CODES}
use Rattle.pam_graph.specs.Walks.{GraphValue}
use Rattle.pam_graph.specs.declared.node.Node.{Node}
use Rattle.pam_drawing.specs.picture.Columns.{reach_of}
use Rattle.pam_drawing.specs.declared.picture.layout.Layout.{Layout}
use Rattle.pam_drawing.specs.declared.picture.layout.brackets.Span.{Span}
use Rattle.pam_drawing.specs.declared.picture.layout.shapes.EndPlace.{EndPlace}
use Rattle.pam_drawing.specs.declared.picture.layout.shapes.Place.{Place}
use Rattle.pam_drawing.specs.declared.picture.layout.widths.Spaces.{Spaces}

-- where the column of a module is, by its number; past the modules that of the ends
abbrev pub place_in : Spaces → ℕ → ℕ
place_in spaces number = slice_index_or spaces.columns.items (number - 1) spaces.end

abbrev pub module_of : Node → ℕ
module_of node = node.module_number

abbrev pub x_of : Place → ℕ
x_of place = place.point.x

-- the first and the last module of a substack
abbrev pub ends_of : Span → ℕ × ℕ
ends_of span = (span.first, span.last)

-- the left and the right of the bracket over these modules
abbrev pub reach_in : Spaces → ℕ × ℕ → ℕ × ℕ
reach_in spaces span = (place_in spaces span.0 - 8, place_in spaces (span.1 + 1) - 14)

abbrev pub x_of_end : EndPlace → ℕ
x_of_end end = end.point.x

-- the nodes, the ends and the brackets over these spans are where these columns are
pub record HasPlacesIn (spaces : Spaces) (graph : GraphValue) (spans : List (ℕ × ℕ)) (layout : Layout) : Type 0 where
  pub columns : layout.columns.items ≡ spaces.columns.items
  pub nodes : map x_of layout.places.items ≡ map (place_in spaces) (map module_of graph.nodes)
  pub ends : map x_of_end layout.ends.items ≡ map (λ (decision : ℕ). spaces.end) (range_with_len 0 CODES)
  pub brackets : map reach_of layout.brackets.items ≡ map (reach_in spaces) spans
