use Rattle.std.proofs.Common.{◌∙◌, ◌++◌, List, ap, codes, sym, ℕ}
use Rattle.std.specs.List.{flat_map}
use Rattle.pam_codes.proofs.Writing.{err-front, front-is, front-longer, writes-is, writes-then}
use Rattle.pam_render.proofs.TextProofs.ExplainTexts.{example-some}
use Rattle.pam_render.specs.text.Explain.{example_line, lines_of}
use Rattle.pam_render.proofs.text.explain.put_example.Goals as goal

pub returns-in_err-put : goal.returns-in_err-put
returns-in_err-put g c =
    err-front _ c.from_residual.ensures.0
    (front-is (front-longer (flat_map example_line (lines_of c.args.example.now)) c.in_err-put.ensures)
    (example-some c.args.example.now (sym c.is_empty.ensures ∙ c.if-is_empty.false)))

pub returns : goal.returns
returns g c =
    writes-is _ _ _ _ _ _ (writes-then _ _ _ c.in_ok-put.ensures c.put_example_lines.ensures)
    (ap (λ (text : List ℕ). codes "\nExample:\n" ++ flat_map example_line (lines_of text)) c.as_bytes.ensures.value
    ∙ example-some c.args.example.now (sym c.is_empty.ensures ∙ c.if-is_empty.false))
