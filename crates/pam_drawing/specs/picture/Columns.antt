-- The columns of a picture, one for each module, and the brackets over those of substacks.
use Rattle.std.specs.Prelude.{◌≡◌, ℕ, ◌+◌, ◌-◌, ◌≤◌, ◌==◌, if◌then◌else◌, List, [], ◌∷◌, ◌++◌, Some, length, map, slice_get, slice_index_or}
use Rattle.std.specs.List.{All, AllPairs}
use Rattle.pam_conf.specs.Stack.{Items, End, ThenModule, ThenSub, module_count}
use Rattle.pam_graph.specs.Walks.{GraphValue}
use Rattle.pam_graph.specs.declared.node.Node.{Node}
use Rattle.pam_drawing.specs.picture.Places.{end_at, point_at}
use Rattle.pam_drawing.specs.declared.picture.layout.Layout.{Layout}
use Rattle.pam_drawing.specs.declared.picture.layout.shapes.Bracket.{Bracket}
use Rattle.pam_drawing.specs.declared.picture.layout.shapes.EndPlace.{EndPlace}

-- a column is at least this much left of another one
abbrev pub IsLeftOf : ℕ → ℕ → Type 0
IsLeftOf left right = left + 36 ≤ right

-- the column of the ends
abbrev pub end_column : Layout → ℕ
end_column layout = (end_at layout 0).point.x

-- the column of the module with this number; after the last module, that of the ends
abbrev pub column_of : Layout → ℕ → ℕ
column_of layout number = slice_index_or layout.columns.items (number - 1) (end_column layout)

-- ---- brackets

-- the first and the last of this many modules that come after others; nothing if there are none
abbrev pub span_after : ℕ → ℕ → List (ℕ × ℕ)
span_after before count = if count == 0 then [] else (before + 1, before + count) ∷ []

-- the modules of each substack that has one, by the numbers of its first and its last; the substacks within a substack come before it
abbrev pub spans_after : ℕ → Items → List (ℕ × ℕ)
spans_after before End = []
spans_after before (ThenModule m rest) = spans_after (before + 1) rest
spans_after before (ThenSub s inner rest) =
    spans_after before inner ++ (span_after before (module_count inner) ++ spans_after (before + module_count inner) rest)

-- from before the column of the first module to before the one that comes after the last module's
abbrev pub reach_over : Layout → ℕ × ℕ → ℕ × ℕ
reach_over layout span = (column_of layout span.0 - 8, column_of layout (span.1 + 1) - 14)

abbrev pub reach_of : Bracket → ℕ × ℕ
reach_of bracket = (bracket.left, bracket.right)

-- ---- the columns

-- THE COLUMNS of the picture of a graph of a stack: one for each module, each right of those before it, and right of these the one of the
-- ends. Each node and each end is in its column, and each substack with a module has a bracket over its columns
pub record HasColumns (items : Items) (graph : GraphValue) (layout : Layout) : Type 0 where
  pub count : length layout.columns.items ≡ module_count items
  pub order : AllPairs IsLeftOf (layout.columns.items ++ end_column layout ∷ [])
  pub nodes : (index : ℕ) (node : Node) → slice_get graph.nodes index ≡ Some node → (point_at layout index).x ≡ column_of layout node.module_number
  pub ends : All (λ (end : EndPlace). end.point.x ≡ end_column layout) layout.ends.items
  pub brackets : map reach_of layout.brackets.items ≡ map (reach_over layout) (spans_after 0 items)
