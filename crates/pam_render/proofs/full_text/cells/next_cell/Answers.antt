use Rattle.std.proofs.Common.{◌∙◌, ◌∷◌, List, ℕ, ap, ap₂, sym}
use Rattle.pam_render.proofs.FullTextProofs.CellSteps.{cells-none, cells-seen}
use Rattle.pam_render.specs.full_text.Cells.{Cell, Seen, cells}
use Rattle.pam_render.proofs.full_text.cells.next_cell.Goals as goal

pub returns-then-len-eq0-clause-value : goal.returns-then-len-eq0-clause-value
returns-then-len-eq0-clause-value c =
    cells-none c.args.bytes.now c.in_ok-byte.after.now _ c.seen_len-len.result c.in_ok-byte.ensures.cases.0 c.seen_len-len.ensures.value c.if-len-eq0.true
    ∙ ap (λ (cell : Cell). cell ∷ cells 0 c.in_ok-byte.after.now) (sym c.byte_cell.ensures)

pub returns-clause-value : goal.returns-clause-value
returns-clause-value c =
    cells-seen c.args.bytes.now c.in_ok-byte.after.now _ c.seen_len-len.result c.in_ok-byte.ensures.cases.0 c.seen_len-len.ensures.value c.if-len-eq0.false
    ∙ ap₂ {A = List ℕ} {B = List ℕ} {C = List Cell} (λ seen rest. Seen seen ∷ cells 0 rest) (sym c.split_at.ensures.front) (sym c.split_at.ensures.back)
