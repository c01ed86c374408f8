use Rattle.std.proofs.Common.{◌++◌, List, ap, codes, ℕ}
use Rattle.pam_text.proofs.Writing.{err-front, front-is, front-longer, writes-is, writes-then}
use Rattle.pam_render.proofs.FullTextProofs.Witness.{rows-are}
use Rattle.pam_render.specs.parts.CheckNames.{names_view}
use Rattle.pam_render.proofs.full_text.witness.put_table.Goals as goal

pub returns-in_err-put_rows : goal.returns-in_err-put_rows
returns-in_err-put_rows g c =
    err-front _ c.from_residual.ensures.0
    (front-is (front-longer (codes "\n") c.in_err-put_rows.ensures)
    (ap (λ (l : List ℕ). l ++ codes "\n")
    (rows-are (names_view c.args.names.now).paths c.args.way.now c.as_slice-answers.result.now c.widths_of-widths.result c.as_slice-answers.ensures.value
    c.widths_of-widths.ensures)))

pub returns : goal.returns
returns g c =
    writes-is _ _ _ _ _ _ (writes-then _ _ _ c.in_ok-put_rows.ensures c.put.ensures)
    (ap (λ (l : List ℕ). l ++ codes "\n")
    (rows-are (names_view c.args.names.now).paths c.args.way.now c.as_slice-answers.result.now c.widths_of-widths.result c.as_slice-answers.ensures.value
    c.widths_of-widths.ensures))
