-- The drawing of a graph, by its title.
use Rattle.std.proofs.Common.{◌≡◌, List, ap, ℕ, refl}
use Rattle.pam_conf.specs.Stack.{Items}
use Rattle.pam_graph.specs.Walks.{GraphValue}
use Rattle.pam_render.specs.text.inner.Canvas.{IsCanvasOf, canvas_text}
use Rattle.pam_render.specs.text.Drawing.{IsDrawnIn}
use Rattle.pam_render.specs.declared.text.drawing.Canvas.{Canvas}
use Rattle.pam_render.specs.declared.text.drawing.Canvas.TheVariants as canvas
use Rattle.pam_words.specs.declared.wanted.GraphFormat.{GraphFormat}
use Rattle.pam_words.specs.declared.wanted.GraphFormat.TheVariants.{Dot, Mermaid, Svg}

pub drawing-is : (form : Canvas) (items : Items) (graph : GraphValue) {one other : List ℕ} → one ≡ other
    → canvas_text form one items graph ≡ canvas_text form other items graph
drawing-is form items graph e = ap (λ (title : List ℕ). canvas_text form title items graph) e

-- a text in the format that is asked for
pub drawn-in : (format : GraphFormat) (form : Canvas) (title : List ℕ) (items : Items) (graph : GraphValue) → IsCanvasOf format items graph form
    → IsDrawnIn format title items graph (canvas_text form title items graph)
drawn-in Dot canvas.Dot title items graph is = refl
drawn-in Mermaid canvas.Mermaid title items graph is = refl
drawn-in Svg (canvas.Svg layout) title items graph is = (layout, is, refl)
drawn-in Dot canvas.Mermaid title items graph is = absurd is
drawn-in Dot (canvas.Svg layout) title items graph is = absurd is
drawn-in Mermaid canvas.Dot title items graph is = absurd is
drawn-in Mermaid (canvas.Svg layout) title items graph is = absurd is
drawn-in Svg canvas.Dot title items graph is = absurd is
drawn-in Svg canvas.Mermaid title items graph is = absurd is
