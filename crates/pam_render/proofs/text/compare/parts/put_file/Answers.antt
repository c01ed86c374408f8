use Rattle.std.proofs.Common.{codes}
use Rattle.std.specs.Prelude.{decimal}
use Rattle.pam_codes.proofs.Writing.{all-then, err-front, front-longer, front-then, writes-is, writes-then}
use Rattle.pam_render.specs.sentences.Shown.{shown_name}
use Rattle.pam_render.proofs.TextProofs.CompareTexts.{place-is}
use Rattle.pam_render.proofs.text.compare.parts.put_file.Goals as goal

pub returns-in_err-put : goal.returns-in_err-put
returns-in_err-put g c =
    err-front _ c.from_residual.ensures.0
    (front-longer (decimal c.args.line) (front-longer (codes ":") (front-longer (shown_name c.args.file.now) c.in_err-put.ensures)))

pub returns-in_err-put_name : goal.returns-in_err-put_name
returns-in_err-put_name g c =
    err-front _ c.from_residual-in_err-put_name.ensures.0
    (front-longer (decimal c.args.line) (front-longer (codes ":") (front-then c.in_ok-put.ensures c.in_err-put_name.ensures)))

pub returns : goal.returns
returns g c =
    writes-is _ _ _ _ _ _ (writes-then _ _ _ (all-then c.in_ok-put.ensures c.in_ok-put_name.ensures) c.put_line.ensures)
    (place-is (shown_name c.args.file.now) (decimal c.args.line))
