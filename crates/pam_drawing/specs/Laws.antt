-- What the definitions of labels and of escaped texts imply: no text ends the quotes around it, and none begins or ends an element in XML.
use Rattle.std.specs.Prelude.{◌≡◌, ℕ, ◌<◌, ◌==◌, nat_le, All, Bool, ◌&&◌, ◌||◌, not, true, false, if◌then◌else◌, List, [], ◌∷◌, ◌++◌, codes}
use Rattle.std.specs.Prelude.{Option, None, Some, option_map}
use Rattle.std.specs.List.{flat_map, list_all, list_any}
use Rattle.pam_drawing.specs.Escaped.{escaped}
use Rattle.pam_drawing.specs.Labels.{ascii_byte, is_plain, label, named}
use Rattle.pam_drawing.specs.declared.format.Format.TheVariants.{Dot, Mermaid}

abbrev pub with_front : List ℕ → Option (List ℕ × List ℕ) → Option (List ℕ × List ℕ)
with_front front read = option_map (λ (p : List ℕ × List ℕ). (front ++ p.0, p.1)) read

-- how DOT reads a text in quotes, from after the opening quote on: the characters before the quote that ends it, and what comes
-- after that quote. `escaped` is true just after a backslash, which makes the next character one of the text
unfoldable pub dot_text : Bool → List ℕ → Option (List ℕ × List ℕ)
dot_text escaped [] = None
dot_text true (c ∷ rest) = with_front (c ∷ []) (dot_text false rest)
dot_text false (c ∷ rest) =
    if c == 34 then Some ([], rest)
    else if c == 92 then dot_text true rest
    else with_front (c ∷ []) (dot_text false rest)

-- the characters that are shown for the bytes of a text
abbrev pub shown : List ℕ → List ℕ
shown text = flat_map (λ b. flat_map named (ascii_byte b)) text

-- in DOT a label ends at the quote that follows it, and nowhere before; what is read is the text
abbrev pub DotReadsLabels : Type 0
DotReadsLabels = (text rest : List ℕ) → dot_text false (label Dot text ++ 34 ∷ rest) ≡ Some (shown text, rest)

-- a character of a label for Mermaid: plain, or a part of `#NN;`. So it is no quote, no line feed, and no angle bracket
abbrev pub is_of_label : ℕ → Bool
is_of_label c = is_plain c || c == 35 || c == 59

abbrev pub MermaidLabelsArePlain : Type 0
MermaidLabelsArePlain = (text : List ℕ) → All (λ b. b < 256) text → list_all is_of_label (label Mermaid text) ≡ true

-- printable, and none of the characters that begin or end an element or an attribute
abbrev pub is_of_text : ℕ → Bool
is_of_text c = nat_le 32 c && nat_le c 126 && not (list_any (λ x. x == c) (codes "<>\"'"))

abbrev pub TextsArePlain : Type 0
TextsArePlain = (text : List ℕ) → All (λ b. b < 256) text → list_all is_of_text (escaped text) ≡ true
