-- The text of a drawing of a graph, in the language of Graphviz (DOT) or of Mermaid.
use Rattle.std.specs.Prelude.{ℕ, ◌+◌, ◌==◌, Bool, false, ◌||◌, if◌then◌else◌, List, [], ◌∷◌, ◌++◌, codes, decimal, length}
use Rattle.std.specs.List.{concat, enumerate_from, flat_map, list_any, range_with_len}
use Rattle.std.specs.Option.{option_map_or}
use Rattle.pam_codes.specs.Code.{all_codes}
use Rattle.pam_codes.specs.Set.{codes_where, is_in}
use Rattle.pam_codes.specs.SetText.{name_of, set_text}
use Rattle.pam_codes.specs.declared.code.TheConstants.{CODES}
use Rattle.pam_conf.specs.Stack.{Items, module_at, module_count}
use Rattle.pam_dispatch.specs.State.{success}
use Rattle.pam_dispatch.specs.declared.state.Impression.{Impression}
use Rattle.pam_dispatch.specs.declared.state.Impression.TheVariants.{Undef, Positive, Negative}
use Rattle.pam_dispatch.specs.declared.state.State.{State}
use Rattle.pam_drawing.specs.Labels.{label}
use Rattle.pam_drawing.specs.declared.format.Format.{Format}
use Rattle.pam_drawing.specs.declared.format.Format.TheVariants.{Dot, Mermaid}
use Rattle.pam_graph.specs.Walks.{GraphValue}
use Rattle.pam_graph.specs.declared.node.Edge.{Edge}
use Rattle.pam_graph.specs.declared.node.Node.{Node}
use Rattle.pam_graph.specs.declared.node.Target.{Target}
use Rattle.pam_graph.specs.declared.node.Target.TheVariants.{At, End}
use Rattle.pam_facts.specs.known.Answers.{name_of_path}

-- ---- what is drawn

-- a node, with its index in the graph
abbrev pub Drawn : Type 0
Drawn = ℕ × Node

abbrev pub drawn_nodes : List Node → List Drawn
drawn_nodes nodes = enumerate_from 0 nodes

-- an end is drawn if an edge leads to it, or the run begins there
abbrev pub is_end : ℕ → Target → Bool
is_end code (At index) = false
is_end code (End decision) = decision == code

abbrev pub leads_to : ℕ → Node → Bool
leads_to code node = list_any (λ (edge : Edge). is_end code edge.target) node.edges.items

abbrev pub is_drawn_end : GraphValue → ℕ → Bool
is_drawn_end graph code = is_end code graph.start || list_any (leads_to code) graph.nodes

abbrev pub drawn_ends : GraphValue → List ℕ
drawn_ends graph = codes_where (is_drawn_end graph)

-- ---- its text

abbrev pub impression_name : Impression → List ℕ
impression_name Undef = codes "undef"
impression_name Positive = codes "positive"
impression_name Negative = codes "negative"

-- `IMPRESSION STATUS`
unfoldable pub state_text : State → List ℕ
state_text s = impression_name s.impression ++ codes " " ++ name_of s.status

-- the name of the file of a module; empty if the stack has no module with this number
unfoldable pub name_at : Items → ℕ → List ℕ
name_at items number = name_of_path (option_map_or (λ m. m.path) (module_at number items) [])

-- the end of a row of a label
abbrev pub row_end : Format → List ℕ
row_end Dot = codes "\\n"
row_end Mermaid = codes "<br/>"

-- two rows, `NUMBER NAME` and `IMPRESSION STATUS`
unfoldable pub node_label : Format → Items → Node → List ℕ
node_label format items node =
    decimal node.module_number ++ codes " " ++ label format (name_at items node.module_number) ++ row_end format ++ state_text node.state

-- the text before the label of a node, and the text after it. Each impression has a shape of its own
abbrev pub node_opening : Format → Impression → List ℕ
node_opening Dot impression = codes " [label=\""
node_opening Mermaid Undef = codes "[\""
node_opening Mermaid Positive = codes "(\""
node_opening Mermaid Negative = codes "[\""

abbrev pub node_style : Impression → List ℕ
node_style Undef = codes "\", shape=box, style=dashed, group=\""
node_style Positive = codes "\", shape=box, style=rounded, group=\""
node_style Negative = codes "\", shape=box, style=bold, group=\""

unfoldable pub dot_closing : State → List ℕ
dot_closing s = node_style s.impression ++ state_text s ++ codes "\"];\n"

abbrev pub mermaid_closing : Impression → List ℕ
mermaid_closing Undef = codes "\"]:::undef\n"
mermaid_closing Positive = codes "\"):::positive\n"
mermaid_closing Negative = codes "\"]:::negative\n"

abbrev pub node_closing : Format → State → List ℕ
node_closing Dot s = dot_closing s
node_closing Mermaid s = mermaid_closing s.impression

-- `nINDEX`, at the beginning of a line
unfoldable pub node_id : ℕ → List ℕ
node_id index = concat (codes "  n" ∷ decimal index ∷ [])

-- Graphviz puts a node into the column of its module
unfoldable pub rank_text : Format → ℕ → ℕ → List ℕ
rank_text Dot index number = concat (codes "  { rank=same c" ∷ decimal number ∷ codes " n" ∷ decimal index ∷ codes " }\n" ∷ [])
rank_text Mermaid index number = []

-- the id, the node and its column
unfoldable pub node_text : Format → Items → Drawn → List ℕ
node_text format items drawn =
    node_id drawn.0 ++ node_opening format drawn.1.state.impression ++ node_label format items drawn.1
    ++ node_closing format drawn.1.state ++ rank_text format drawn.0 drawn.1.module_number

-- the column after the one with this number: a point that is not seen, right of the point before it
unfoldable pub column_text : ℕ → List ℕ
column_text number =
    concat
    (codes "  c" ∷ decimal (number + 1) ∷ codes " [shape=point, style=invis];\n  c" ∷ decimal number ∷ codes " -> c" ∷ decimal (number + 1)
    ∷ codes " [style=invis];\n" ∷ [])

-- Graphviz has a column for each module
unfoldable pub columns_text : Format → Items → List ℕ
columns_text Dot items = flat_map column_text (range_with_len 0 (module_count items))
columns_text Mermaid items = []

-- success, with a shape of its own
abbrev pub success_text : Format → List ℕ
success_text Dot = codes "  d0 [label=\"success\", shape=ellipse, peripheries=2, group=\"positive success\"];\n"
success_text Mermaid = codes "  d0([\"success\"]):::success\n"

-- another decision
unfoldable pub dot_failure : ℕ → List ℕ
dot_failure code =
    concat
    (codes "  d" ∷ decimal code ∷ codes " [label=\"" ∷ name_of code ∷ codes "\", shape=octagon, group=\"negative " ∷ name_of code ∷ codes "\"];\n" ∷ [])

unfoldable pub mermaid_failure : ℕ → List ℕ
mermaid_failure code = concat (codes "  d" ∷ decimal code ∷ codes "{{\"" ∷ name_of code ∷ codes "\"}}\n" ∷ [])

abbrev pub failure_text : Format → ℕ → List ℕ
failure_text Dot code = dot_failure code
failure_text Mermaid code = mermaid_failure code

unfoldable pub end_text : Format → ℕ → List ℕ
end_text format code = if code == success then success_text format else failure_text format code

unfoldable pub end_if_drawn : Format → List ℕ → ℕ → List ℕ
end_if_drawn format drawn code = if is_in code drawn then end_text format code else []

abbrev pub ends_opening : Format → List ℕ
ends_opening Dot = codes "  { rank=sink\n"
ends_opening Mermaid = []

abbrev pub ends_closing : Format → List ℕ
ends_closing Dot = codes "  }\n"
ends_closing Mermaid = []

unfoldable pub ends_text : Format → GraphValue → List ℕ
ends_text format graph = ends_opening format ++ flat_map (end_if_drawn format (drawn_ends graph)) all_codes ++ ends_closing format

-- `nINDEX` or `dCODE`
abbrev pub target_text : Target → List ℕ
target_text (At index) = concat (codes "n" ∷ decimal index ∷ [])
target_text (End decision) = concat (codes "d" ∷ decimal decision ∷ [])

-- a class between two texts; nothing for every answer
unfoldable pub class_between : List ℕ → List ℕ → List ℕ → List ℕ
class_between before class after = before ++ set_text class ++ after

unfoldable pub class_text : List ℕ → List ℕ → List ℕ → List ℕ
class_text before class after = if length class == CODES then [] else class_between before class after

-- an edge, with its class
unfoldable pub dot_edge : ℕ → Edge → List ℕ
dot_edge index edge =
    node_id index ++ codes " -> " ++ target_text edge.target ++ class_text (codes " [label=\"") edge.class (codes "\"]") ++ codes ";\n"

unfoldable pub mermaid_edge : ℕ → Edge → List ℕ
mermaid_edge index edge =
    node_id index ++ codes " -->" ++ class_text (codes "|\"") edge.class (codes "\"|") ++ codes " " ++ target_text edge.target ++ codes "\n"

abbrev pub edge_text : Format → ℕ → Edge → List ℕ
edge_text Dot index edge = dot_edge index edge
edge_text Mermaid index edge = mermaid_edge index edge

-- the edges of a node
abbrev pub node_edges : Format → Drawn → List ℕ
node_edges format drawn = flat_map (edge_text format drawn.0) drawn.1.edges.items

-- the point at which a run begins leads to its first module, or to its end
abbrev pub start_opening : Format → List ℕ
start_opening Dot = codes "  start -> "
start_opening Mermaid = codes "  start --> "

abbrev pub line_closing : Format → List ℕ
line_closing Dot = codes ";\n"
line_closing Mermaid = codes "\n"

unfoldable pub start_text : Format → Target → List ℕ
start_text format start = start_opening format ++ target_text start ++ line_closing format

-- what comes before the title, and what between it and the nodes
abbrev pub first_lines : Format → List ℕ
first_lines Dot =
    codes "digraph pamcheck {\n  graph [rankdir=LR, newrank=true, ranksep=0.6, nodesep=0.25, fontname=\"sans-serif\", labelloc=t, label=\""
first_lines Mermaid = codes "---\ntitle: \""

abbrev pub next_lines : Format → List ℕ
next_lines Dot =
    codes "\"];\n  node [fontname=\"sans-serif\", fontsize=11, height=0.2, margin=\"0.08,0.04\"];\n"
    ++ codes "  edge [fontname=\"sans-serif\", fontsize=10, arrowsize=0.6];\n  start [shape=point];\n  c0 [shape=point, style=invis];\n"
next_lines Mermaid =
    codes "\"\n---\nflowchart LR\n  classDef undef stroke-dasharray:4 3\n  classDef positive stroke-width:1px\n"
    ++ codes "  classDef negative stroke-width:3px\n  classDef success stroke-width:4px\n  start(( ))\n"

unfoldable pub title_text : Format → List ℕ → List ℕ
title_text format title = first_lines format ++ label format title ++ next_lines format

abbrev pub last_line : Format → List ℕ
last_line Dot = codes "}\n"
last_line Mermaid = []

-- the nodes, after their columns, and then the ends
unfoldable pub shapes_text : Format → Items → GraphValue → List ℕ
shapes_text format items graph =
    columns_text format items ++ flat_map (node_text format items) (drawn_nodes graph.nodes) ++ ends_text format graph

-- the edges; the first of them comes from the start
unfoldable pub start_and_edges : Format → GraphValue → List ℕ
start_and_edges format graph = start_text format graph.start ++ flat_map (node_edges format) (drawn_nodes graph.nodes)

-- THE DRAWING of a graph of the runs of a stack
unfoldable pub drawing : Format → List ℕ → Items → GraphValue → List ℕ
drawing format title items graph =
    title_text format title ++ shapes_text format items graph ++ start_and_edges format graph ++ last_line format
