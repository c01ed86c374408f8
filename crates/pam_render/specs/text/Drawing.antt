-- The text of `graph`: the drawing of the graph of a stack's runs.
use Rattle.std.specs.Prelude.{◌≡◌, ℕ, Result, Ok, List, ◌++◌, codes, map}
use Rattle.std.specs.Char.{to_ascii_lowercase}
use Rattle.pam_conf.specs.Stack.{Items}
use Rattle.pam_conf.specs.declared.rule.Kind.{Kind}
use Rattle.pam_drawing.specs.Languages.{dot_drawing, mermaid_drawing}
use Rattle.pam_graph.specs.Walks.{GraphValue}
use Rattle.pam_paths.specs.declared.cursor.CursorError.{CursorError}
use Rattle.pam_drawing.specs.picture.Layouts.{IsLayoutOf}
use Rattle.pam_drawing.specs.picture.Picture.{svg_text}
use Rattle.pam_drawing.specs.declared.picture.layout.Layout.{Layout}
use Rattle.pam_report.specs.Reply.{DrawingValue}
use Rattle.pam_words.specs.declared.wanted.GraphFormat.{GraphFormat}
use Rattle.pam_words.specs.declared.wanted.GraphFormat.TheVariants.{Dot, Mermaid, Svg}
use Rattle.pam_render.specs.text.Header.{kind_name}

-- a text is the drawing of a graph of a stack in a format, with a title. Left open are where the shapes of a picture are, and how
-- many lanes and brackets it has, and nothing else
abbrev pub IsDrawnIn : GraphFormat → List ℕ → Items → GraphValue → List ℕ → Type 0
IsDrawnIn Dot title items graph text = text ≡ dot_drawing title items graph
IsDrawnIn Mermaid title items graph text = text ≡ mermaid_drawing title items graph
IsDrawnIn Svg title items graph text = (layout : Layout) × IsLayoutOf items graph layout × (text ≡ svg_text title items graph layout)

-- `SERVICE KIND`, with the service in lowercase
unfoldable pub title_of : List ℕ → Kind → List ℕ
title_of service kind = map to_ascii_lowercase service ++ codes " " ++ kind_name kind

-- THE TEXT of `graph`
abbrev pub IsDrawingText : DrawingValue → Result (List ℕ) CursorError → Type 0
IsDrawingText value text =
    (drawn : List ℕ) × IsDrawnIn value.format (title_of value.service value.kind) value.items value.graph drawn × (text ≡ Ok drawn)
