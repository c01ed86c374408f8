-- Text in XML: no name of a file ends its element or begins another one.
use Rattle.std.specs.Prelude.{ℕ, ◌==◌, if◌then◌else◌, List, [], ◌∷◌, codes}
use Rattle.std.specs.List.{flat_map}
use Rattle.pam_drawing.specs.Labels.{ascii_byte}

-- the characters that mean something in XML, by their names
unfoldable pub named : ℕ → List ℕ
named c =
    if c == 38 then codes "&amp;"
    else if c == 60 then codes "&lt;"
    else if c == 62 then codes "&gt;"
    else if c == 34 then codes "&quot;"
    else if c == 39 then codes "&#39;"
    else c ∷ []

abbrev pub escaped_byte : ℕ → List ℕ
escaped_byte b = flat_map named (ascii_byte b)

-- A TEXT IN XML: its bytes in printable ASCII, as in DOT, and then by the names of characters
abbrev pub escaped : List ℕ → List ℕ
escaped text = flat_map escaped_byte text
