-- Text in the quotes of Graphviz and of Mermaid. No text of a file ends the quotes.
use Rattle.std.specs.Prelude.{ℕ, ◌+◌, ◌/◌, ◌%◌, ◌==◌, nat_le, nat_lt, Bool, ◌&&◌, ◌||◌, if◌then◌else◌, List, [], ◌∷◌, ◌++◌, codes, decimal}
use Rattle.std.specs.Char.{is_ascii_alphanumeric}
use Rattle.std.specs.List.{flat_map, list_any}
use Rattle.pam_drawing.specs.declared.format.Format.{Format}
use Rattle.pam_drawing.specs.declared.format.Format.TheVariants.{Dot, Mermaid}

-- a hexadecimal digit, with small letters
abbrev pub hex_digit : ℕ → ℕ
hex_digit n = if nat_lt n 10 then 48 + n else 87 + n

-- a byte in printable ASCII: `\\` for a backslash, and `\xNN` for a byte that is not printable
unfoldable pub ascii_byte : ℕ → List ℕ
ascii_byte b =
    if b == 92 then 92 ∷ 92 ∷ []
    else if nat_le 32 b && nat_le b 126 then b ∷ []
    else 92 ∷ 120 ∷ hex_digit (b / 16) ∷ hex_digit (b % 16) ∷ []

-- a character that Mermaid reads as itself
abbrev pub is_plain : ℕ → Bool
is_plain c = is_ascii_alphanumeric c || list_any (λ x. x == c) (codes " _-+=,.:")

-- an ampersand by its name, since Graphviz reads names of characters in a label
abbrev pub named : ℕ → List ℕ
named c = if c == 38 then codes "&amp;" else c ∷ []

-- a character in quotes: Graphviz wants a backslash before a quote and a backslash, Mermaid a number for each that is not plain
unfoldable pub quoted : Format → ℕ → List ℕ
quoted Dot c = if c == 92 || c == 34 then 92 ∷ c ∷ [] else named c
quoted Mermaid c = if is_plain c then c ∷ [] else codes "#" ++ decimal c ++ codes ";"

abbrev pub quoted_byte : Format → ℕ → List ℕ
quoted_byte format b = flat_map (quoted format) (ascii_byte b)

-- A TEXT IN QUOTES, without them
abbrev pub label : Format → List ℕ → List ℕ
label format text = flat_map (quoted_byte format) text
