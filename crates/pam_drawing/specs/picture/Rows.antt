-- Text of several rows.
use Rattle.std.specs.Prelude.{ℕ, ◌==◌, if◌then◌else◌, List, codes}
use Rattle.std.specs.List.{flat_map}
use Rattle.pam_drawing.specs.Escaped.{escaped_byte}

-- a blank begins another row of a column's heading
unfoldable pub row_byte : ℕ → List ℕ
row_byte b = if b == 32 then codes "</tspan><tspan x=\"-6\" dy=\"15\">" else escaped_byte b

-- a text with a row for each of its words
abbrev pub rows : List ℕ → List ℕ
rows text = flat_map row_byte text
