-- For private contracts and proofs alone: a cell and a part of an excerpt, as values.
use Rattle.std.specs.Prelude.{ℕ, List, decimal, replicate}
use Rattle.pam_render.specs.declared.full_text.cells.Cell.{Cell}
use Rattle.pam_render.specs.declared.full_text.cells.Cell.TheVariants as declared
use Rattle.pam_render.specs.declared.full_text.excerpt.Part.{Part}
use Rattle.pam_render.specs.declared.full_text.excerpt.Part.TheVariants as parts
use Rattle.pam_render.specs.full_text.Cells as spec

abbrev pub cell_view : Cell → spec.Cell
cell_view (declared.Seen bytes) = spec.Seen bytes.now
cell_view declared.Tab = spec.Tab
cell_view (declared.Numbered byte) = spec.Numbered byte

abbrev pub part_text : Part → List ℕ
part_text (parts.Text text) = text.now
part_text (parts.Number number) = decimal number
part_text (parts.Repeated count byte) = replicate count byte
part_text (parts.Shown room bytes) = spec.cells_text (spec.first_within room (spec.cells 0 bytes.now))
