-- The text of a picture of a graph, in SVG.
use Rattle.std.specs.Prelude.{ℕ, ◌+◌, ◌==◌, nat_lt, Bool, true, false, if◌then◌else◌, List, [], ◌∷◌, ◌++◌, codes, decimal, length, Option, slice_get, take}
use Rattle.std.specs.List.{concat, enumerate_from, flat_map, list_any, range_with_len}
use Rattle.std.specs.Option.{option_map_or}
use Rattle.pam_codes.specs.Code.{all_codes}
use Rattle.pam_codes.specs.declared.action.Action.{Action}
use Rattle.pam_codes.specs.ControlText.{control_text}
use Rattle.pam_codes.specs.Set.{is_in}
use Rattle.pam_codes.specs.SetText.{name_of, set_text}
use Rattle.pam_conf.specs.Stack.{Items, ModuleText, module_at, module_count}
use Rattle.pam_dispatch.specs.State.{success}
use Rattle.pam_dispatch.specs.declared.state.Impression.{Impression}
use Rattle.pam_dispatch.specs.declared.state.Impression.TheVariants.{Undef, Positive, Negative}
use Rattle.pam_dispatch.specs.declared.state.State.{State}
use Rattle.pam_drawing.specs.Drawing.{Drawn, drawn_ends, drawn_nodes, impression_name, name_at, target_text}
use Rattle.pam_graph.specs.Walks.{GraphValue}
use Rattle.pam_graph.specs.declared.node.Edge.{Edge}
use Rattle.pam_graph.specs.declared.node.Node.{Node}
use Rattle.pam_graph.specs.declared.node.Target.{Target}
use Rattle.pam_graph.specs.declared.node.Target.TheVariants.{At, End}
use Rattle.pam_facts.specs.known.Answers.{name_of_path}
use Rattle.pam_drawing.specs.Escaped.{escaped}
use Rattle.pam_drawing.specs.picture.Rows.{rows}
use Rattle.pam_drawing.specs.picture.Labels.{label_text}
use Rattle.pam_drawing.specs.picture.Places.{column_at, control_at, end_at, point_at, point_of, route_at}
use Rattle.pam_drawing.specs.declared.picture.heading.TheConstants.{CUT_NAME, MAX_NAME}
use Rattle.pam_drawing.specs.declared.picture.layout.Layout.{Layout}
use Rattle.pam_drawing.specs.declared.picture.layout.shapes.Bend.{Bend}
use Rattle.pam_drawing.specs.declared.picture.layout.shapes.Bracket.{Bracket}
use Rattle.pam_drawing.specs.declared.picture.layout.shapes.Lane.{Lane}
use Rattle.pam_drawing.specs.declared.picture.layout.shapes.Note.{Note}

-- ---- words

-- `IMPRESSION STATUS`
unfoldable pub state_words : State → List ℕ
state_words s = concat (impression_name s.impression ∷ codes " " ∷ name_of s.status ∷ [])

-- `NUMBER NAME STATE`
unfoldable pub asked_words : ℕ → List ℕ → State → List ℕ
asked_words number name state = concat (decimal number ∷ codes " " ∷ []) ++ escaped name ++ codes " " ++ state_words state

abbrev pub place_words : Items → Node → List ℕ
place_words items node = asked_words node.module_number (name_at items node.module_number) node.state

-- where an edge leads: to a node, or a decision
abbrev pub target_words : Items → List Node → Target → List ℕ
target_words items nodes (At index) = option_map_or (place_words items) (slice_get nodes index) []
target_words items nodes (End decision) = name_of decision

-- by which answers an edge leads from a node, and to where
unfoldable pub sentence_text : Items → List Node → Node → Edge → List ℕ
sentence_text items nodes node edge =
    concat (place_words items node ∷ codes ": " ∷ set_text edge.class ∷ codes " to " ∷ target_words items nodes edge.target ∷ codes ".\n" ∷ [])

abbrev pub node_sentences : Items → List Node → Node → List ℕ
node_sentences items nodes node = flat_map (sentence_text items nodes node) node.edges.items

-- the description, for whom the picture is read aloud
abbrev pub sentences_text : Items → List Node → List ℕ
sentences_text items nodes = flat_map (node_sentences items nodes) nodes

-- ---- lanes and columns

-- the state of the nodes in a lane; nothing for one that has only an end
abbrev pub lane_impression : Option State → List ℕ
lane_impression state = option_map_or (λ (s : State). impression_name s.impression) state []

abbrev pub lane_status : Option State → List ℕ
lane_status state = option_map_or (λ (s : State). name_of s.status) state []

-- a line from the left edge, and the state below it
unfoldable pub lane_text : ℕ → Lane → List ℕ
lane_text width lane =
    concat
    (codes "<path class=\"lane\" d=\"M0 " ∷ decimal lane.top ∷ codes "H" ∷ decimal width
    ∷ codes "\"/>\n<text class=\"strong\" x=\"16\" y=\"" ∷ decimal lane.middle ∷ codes "\" dy=\"4\">" ∷ lane_impression lane.state
    ∷ codes "</text>\n<text class=\"weak\" x=\"16\" y=\"" ∷ decimal lane.middle ∷ codes "\" dy=\"18\">" ∷ lane_status lane.state
    ∷ codes "</text>\n" ∷ [])

abbrev pub lanes_text : Layout → List ℕ
lanes_text layout = flat_map (lane_text layout.width) layout.lanes.items

-- a long name is cut, and its end told by two points
abbrev pub name_front : List ℕ → List ℕ
name_front name = if nat_lt MAX_NAME (length name) then take CUT_NAME name else name

abbrev pub name_ending : List ℕ → List ℕ
name_ending name = if nat_lt MAX_NAME (length name) then codes ".." else []

abbrev pub asks : ℕ → Node → Bool
asks number node = node.module_number == number

-- a module that no run asks is told to be so
abbrev pub asked_row : List Node → ℕ → List ℕ
asked_row nodes number =
    if list_any (asks number) nodes then []
    else codes "</tspan><tspan x=\"-6\" dy=\"15\">never asked"

-- the number, name and control of a module over its column, and the whole path where it is pointed at
unfoldable pub column_heading : List Node → Layout → ℕ → ℕ → List Action → List ℕ → List ℕ
column_heading nodes layout index number control path =
    concat
    (codes "<g transform=\"translate(" ∷ decimal (column_at layout index) ∷ codes " " ∷ decimal layout.headings
    ∷ codes ")\"><title>" ∷ decimal number ∷ codes " " ∷ control_text control ∷ codes " " ∷ escaped path
    ∷ codes "</title><text class=\"strong\" x=\"-6\">" ∷ decimal number
    ∷ codes "</text><text class=\"strong\" x=\"-6\" y=\"15\">" ∷ escaped (name_front (name_of_path path)) ∷ name_ending (name_of_path path)
    ∷ codes "</text><text class=\"weak\" y=\"30\"><tspan x=\"-6\">" ∷ rows (control_at layout index) ∷ asked_row nodes number
    ∷ codes "</tspan></text><path class=\"guide\" d=\"M0 " ∷ decimal layout.rows ∷ codes "v" ∷ decimal layout.guide ∷ codes "\"/></g>\n" ∷ [])

abbrev pub rule_heading : List Node → Layout → ℕ → ModuleText → List ℕ
rule_heading nodes layout index rule = column_heading nodes layout index rule.number rule.control rule.path

-- the column after this many columns
unfoldable pub column_text : Items → List Node → Layout → ℕ → List ℕ
column_text items nodes layout index = option_map_or (rule_heading nodes layout index) (module_at (index + 1) items) []

-- a column for each module
abbrev pub columns_text : Items → List Node → Layout → List ℕ
columns_text items nodes layout = flat_map (column_text items nodes layout) (range_with_len 0 (module_count items))

-- a bracket over the columns of a substack
unfoldable pub bracket_text : Bracket → List ℕ
bracket_text bracket =
    concat
    (codes "<path class=\"bracket\" d=\"M" ∷ decimal bracket.left ∷ codes " " ∷ decimal bracket.height ∷ codes "v-6H" ∷ decimal bracket.right
    ∷ codes "v6\"/>\n" ∷ [])

abbrev pub brackets_text : Layout → List ℕ
brackets_text layout = flat_map bracket_text layout.brackets.items

-- ---- edges

-- a line that keeps its height, and then bends to another one
unfoldable pub bend_text : ℕ → Bend → List ℕ
bend_text height bend =
    concat
    (codes "H" ∷ decimal bend.from ∷ codes "C" ∷ decimal bend.middle ∷ codes " " ∷ decimal height ∷ codes " " ∷ decimal bend.middle
    ∷ codes " " ∷ decimal bend.height ∷ codes " " ∷ decimal bend.to ∷ codes " " ∷ decimal bend.height ∷ [])

-- whether answers lead to different places
abbrev pub is_forked : Node → Bool
is_forked node = nat_lt 1 (length node.edges.items)

-- an edge: a line from the shape of its node to that of its target, its label, and the whole class where it is pointed at
unfoldable pub edge_text : Items → List Node → Layout → Drawn → ℕ × Edge → List ℕ
edge_text items nodes layout drawn edge =
    let start = point_at layout drawn.0 in
    let route = route_at layout drawn.0 edge.0 in
    let end = point_of layout edge.1.target in
    concat
    (codes "<g class=\"edge\" data-from=\"n" ∷ decimal drawn.0 ∷ codes "\" data-to=\"" ∷ target_text edge.1.target
    ∷ codes "\"><title>" ∷ place_words items drawn.1 ∷ codes ": " ∷ set_text edge.1.class ∷ codes " to " ∷ target_words items nodes edge.1.target
    ∷ codes "</title><path d=\"M" ∷ decimal start.x ∷ codes " " ∷ decimal start.y ∷ bend_text start.y route.fan
    ∷ bend_text route.fan.height route.turn ∷ bend_text route.turn.height route.landing ∷ codes "L" ∷ decimal end.x ∷ codes " " ∷ decimal end.y
    ∷ codes "\"/><text x=\"" ∷ decimal route.fan.to ∷ codes "\" y=\"" ∷ decimal route.fan.height
    ∷ codes "\" dx=\"3\" dy=\"-3\">" ∷ label_text (is_forked drawn.1) edge.1.class route.note ∷ codes "</text></g>\n" ∷ [])

abbrev pub node_edges : Items → List Node → Layout → Drawn → List ℕ
node_edges items nodes layout drawn = flat_map (edge_text items nodes layout drawn) (enumerate_from 0 drawn.1.edges.items)

-- each edge of the graph, in order
abbrev pub edges_text : Items → List Node → Layout → List ℕ
edges_text items nodes layout = flat_map (node_edges items nodes layout) (drawn_nodes nodes)

-- ---- nodes and ends

-- a circle, full if the impression is positive, or a square if it is negative; a small one where every answer leads to one place
abbrev pub node_shape : Impression → Bool → List ℕ
node_shape Undef true = codes "<circle r=\"6\"/>"
node_shape Undef false = codes "<circle r=\"3\"/>"
node_shape Positive true = codes "<circle r=\"6\"/>"
node_shape Positive false = codes "<circle r=\"3\"/>"
node_shape Negative true = codes "<path d=\"M-6-6h12v12h-12z\"/>"
node_shape Negative false = codes "<path d=\"M-3-3h6v6h-6z\"/>"

unfoldable pub node_text : Items → Layout → Drawn → List ℕ
node_text items layout drawn =
    let point = point_at layout drawn.0 in
    concat
    (codes "<g id=\"n" ∷ decimal drawn.0 ∷ codes "\" class=\"" ∷ impression_name drawn.1.state.impression
    ∷ codes "\" transform=\"translate(" ∷ decimal point.x ∷ codes " " ∷ decimal point.y ∷ codes ")\"><title>" ∷ place_words items drawn.1
    ∷ codes "</title>" ∷ node_shape drawn.1.state.impression (is_forked drawn.1) ∷ codes "</g>\n" ∷ [])

-- each node of the graph, in order
abbrev pub nodes_text : Items → List Node → Layout → List ℕ
nodes_text items nodes layout = flat_map (node_text items layout) (drawn_nodes nodes)

-- success is round, and no other decision is
abbrev pub box_opening : ℕ → List ℕ
box_opening decision =
    if decision == success then codes "<rect class=\"success\" x=\"12\" y=\"-13\" height=\"26\" rx=\"13\" width=\""
    else codes "<rect class=\"failure\" x=\"12\" y=\"-11\" height=\"22\" width=\""

unfoldable pub end_text : Layout → ℕ → List ℕ
end_text layout decision =
    let end = end_at layout decision in
    concat
    (codes "<g id=\"d" ∷ decimal decision ∷ codes "\" transform=\"translate(" ∷ decimal end.point.x ∷ codes " " ∷ decimal end.point.y
    ∷ codes ")\"><path class=\"arrow\" d=\"M0-1h4v-3l8 4l-8 4v-3h-4z\"/>" ∷ box_opening decision ∷ decimal end.width
    ∷ codes "\"/><text class=\"strong\" x=\"24\" y=\"4\">" ∷ name_of decision ∷ codes "</text></g>\n" ∷ [])

unfoldable pub end_if_drawn : Layout → List ℕ → ℕ → List ℕ
end_if_drawn layout drawn code = if is_in code drawn then end_text layout code else []

-- each decision to which an edge leads, or at which a run begins
abbrev pub ends_text : Layout → GraphValue → List ℕ
ends_text layout graph = flat_map (end_if_drawn layout (drawn_ends graph)) all_codes

-- an arrow to where a run begins
unfoldable pub start_text : Layout → Target → List ℕ
start_text layout start =
    let point = point_of layout start in
    concat
    (codes "<path id=\"start\" class=\"arrow\" data-to=\"" ∷ target_text start ∷ codes "\" d=\"M" ∷ decimal point.x ∷ codes " " ∷ decimal point.y
    ∷ codes "m-8 0l-8-4v8z\"/>\n" ∷ [])

-- ---- the whole

unfoldable pub opening_text : List ℕ → Layout → List ℕ
opening_text title layout =
    concat
    (codes "<svg xmlns=\"http://www.w3.org/2000/svg\" role=\"img\" aria-labelledby=\"title desc\" width=\"" ∷ decimal layout.width
    ∷ codes "\" height=\"" ∷ decimal layout.height ∷ codes "\" viewBox=\"0 0 " ∷ decimal layout.width ∷ codes " " ∷ decimal layout.height
    ∷ codes "\">\n<title id=\"title\">" ∷ escaped title ∷ codes "</title>\n<desc id=\"desc\">" ∷ [])

abbrev pub style_text : List ℕ
style_text =
    codes "</desc>\n<style>\n"
    ++ codes "text{font-family:sans-serif;font-size:12px;fill:#111}.strong{font-weight:bold}.weak{fill:#444}.edge text{font-size:11px}"
    ++ codes ".paper{fill:#fff}.lane{stroke:#bbb}.guide{stroke:#ccc;stroke-dasharray:2 3}.bracket{fill:none;stroke:#444}\n"
    ++ codes ".edge path{fill:none;stroke:#111;stroke-width:1.5}.undef,.negative,.success,.failure{fill:#fff;stroke:#111;stroke-width:2}"
    ++ codes ".positive,.arrow{fill:#111}.success{stroke-width:4}\n"
    ++ codes ".edge:hover path{stroke-width:3}@media (prefers-color-scheme:dark){text{fill:#eee}.weak{fill:#bbb}"
    ++ codes ".paper{fill:#161616}.lane{stroke:#555}.guide{stroke:#444}.bracket{stroke:#bbb}.edge path{stroke:#eee}\n"
    ++ codes ".undef,.negative,.success,.failure{fill:#161616;stroke:#eee}.positive,.arrow{fill:#eee}}\n</style>\n"

unfoldable pub heading_text : List ℕ → Layout → List ℕ
heading_text title layout =
    concat
    (codes "<rect class=\"paper\" width=\"" ∷ decimal layout.width ∷ codes "\" height=\"" ∷ decimal layout.height
    ∷ codes "\"/>\n<text class=\"strong\" x=\"16\" y=\"26\">" ∷ escaped title ∷ codes "</text>\n" ∷ [])

-- how a picture is read
unfoldable pub foot_text : ℕ → List ℕ
foot_text foot =
    concat
    (codes "<text class=\"weak\" x=\"16\" y=\"" ∷ decimal foot
    ∷ codes "\">Read from left to right. A line without a word: any answer. else: every other answer.</text>\n" ∷ [])

-- the codes of a class
unfoldable pub note_text : Note → List ℕ
note_text note =
    concat
    (codes "<text class=\"weak\" x=\"16\" y=\"" ∷ decimal note.height ∷ codes "\">(" ∷ decimal note.number ∷ codes ") " ∷ set_text note.class
    ∷ codes "</text>\n" ∷ [])

abbrev pub notes_text : Layout → List ℕ
notes_text layout = flat_map note_text layout.notes.items

-- what comes before the drawing: for those who do not see it, each edge in words; and how the shapes look
unfoldable pub description_text : List ℕ → Items → List Node → Layout → List ℕ
description_text title items nodes layout = opening_text title layout ++ sentences_text items nodes ++ style_text ++ heading_text title layout

-- the lanes of the states, and the columns of the modules
unfoldable pub table_text : Items → List Node → Layout → List ℕ
table_text items nodes layout = lanes_text layout ++ columns_text items nodes layout ++ brackets_text layout

-- the lines, then the shapes that they meet
unfoldable pub shapes_text : Items → GraphValue → Layout → List ℕ
shapes_text items graph layout =
    edges_text items graph.nodes layout ++ nodes_text items graph.nodes layout ++ ends_text layout graph ++ start_text layout graph.start

-- how a picture is read, and the codes that had no room
unfoldable pub legend_text : Layout → List ℕ
legend_text layout = foot_text layout.foot ++ notes_text layout ++ codes "</svg>\n"

-- THE PICTURE of a graph of the runs of a stack, with a title: a column for each module, a shape for each node and each
-- decision, and a line for each edge. The layout says where they are
unfoldable pub svg_text : List ℕ → Items → GraphValue → Layout → List ℕ
svg_text title items graph layout =
    description_text title items graph.nodes layout ++ table_text items graph.nodes layout ++ shapes_text items graph layout ++ legend_text layout
