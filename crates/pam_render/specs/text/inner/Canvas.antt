-- For private contracts and proofs alone: a format, with the layout of a picture.
use Rattle.std.specs.Prelude.{⊤, ℕ, List}
use Rattle.pam_conf.specs.Stack.{Items}
use Rattle.pam_drawing.specs.Languages.{dot_drawing, mermaid_drawing}
use Rattle.pam_graph.specs.Walks.{GraphValue}
use Rattle.pam_drawing.specs.picture.Layouts.{IsLayoutOf}
use Rattle.pam_drawing.specs.picture.Picture.{svg_text}
use Rattle.pam_render.specs.declared.text.drawing.Canvas.{Canvas}
use Rattle.pam_render.specs.declared.text.drawing.Canvas.TheVariants as canvas
use Rattle.pam_words.specs.declared.wanted.GraphFormat.{GraphFormat}
use Rattle.pam_words.specs.declared.wanted.GraphFormat.TheVariants.{Dot, Mermaid, Svg}

abbrev pub IsCanvasOf : GraphFormat → Items → GraphValue → Canvas → Type 0
IsCanvasOf Dot items graph canvas.Dot = ⊤
IsCanvasOf Mermaid items graph canvas.Mermaid = ⊤
IsCanvasOf Svg items graph (canvas.Svg layout) = IsLayoutOf items graph layout
IsCanvasOf format items graph form = ⊥

abbrev pub canvas_text : Canvas → List ℕ → Items → GraphValue → List ℕ
canvas_text canvas.Dot title items graph = dot_drawing title items graph
canvas_text canvas.Mermaid title items graph = mermaid_drawing title items graph
canvas_text (canvas.Svg layout) title items graph = svg_text title items graph layout
