-- The drawings in each language, by names that other crates can cite.
use Rattle.std.specs.Prelude.{ℕ, List}
use Rattle.pam_conf.specs.Stack.{Items}
use Rattle.pam_drawing.specs.Drawing.{drawing}
use Rattle.pam_drawing.specs.declared.format.Format.TheVariants.{Dot, Mermaid}
use Rattle.pam_graph.specs.Walks.{GraphValue}

-- A DRAWING in DOT, of the graph of a stack, with a title
abbrev pub dot_drawing : List ℕ → Items → GraphValue → List ℕ
dot_drawing title items graph = drawing Dot title items graph

-- A DRAWING for Mermaid
abbrev pub mermaid_drawing : List ℕ → Items → GraphValue → List ℕ
mermaid_drawing title items graph = drawing Mermaid title items graph
