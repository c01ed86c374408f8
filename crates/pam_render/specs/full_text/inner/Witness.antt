-- For private contracts and proofs alone: the rows of a way in, as values.
use Rattle.std.specs.Prelude.{◌≡◌, List, ℕ}
use Rattle.pam_render.specs.declared.full_text.witness.Row.{Row}
use Rattle.pam_render.specs.declared.full_text.witness.Widths.{Widths}
use Rattle.pam_render.specs.full_text.Witness as spec

abbrev pub row_view : Row → spec.Row
row_view row = record { number = row.number; path = row.path.now; line = row.line; name = row.name.now; code = row.code }

-- the widths of the columns of a table
pub record AreWidths (rows : List spec.Row) (widths : Widths) : Type 0 where
  pub number : widths.number ≡ spec.widest spec.number_width rows
  pub place : widths.place ≡ spec.widest spec.place_width rows
  pub name : widths.name ≡ spec.widest spec.name_width rows

-- a line with columns of these widths
abbrev pub row_within : Widths → spec.Row → List ℕ
row_within widths row = spec.row_line widths.number widths.place widths.name row
