use Rattle.pam_text.proofs.Writing.{all-then, err-flushes, flushes-last, front-longer, front-then}
use Rattle.pam_render.specs.parts.Findings.{rest_lines}
use Rattle.pam_render.specs.text.Check.{line_text}
use Rattle.pam_report.specs.ReplyViews.{check_view}
use Rattle.pam_render.proofs.full_text.document.write_named.Goals as goal

pub returns-in_err-put_all_found : goal.returns-in_err-put_all_found
returns-in_err-put_all_found g c =
    err-flushes _ c.from_residual.ensures.0 (front-longer (rest_lines line_text (check_view c.args.reply.now)) c.in_err-put_all_found.ensures)

pub returns-in_err-put_rest : goal.returns-in_err-put_rest
returns-in_err-put_rest g c =
    err-flushes _ c.from_residual-in_err-put_rest.ensures.0 (front-then c.in_ok-put_all_found.ensures c.in_err-put_rest.ensures)

pub returns : goal.returns
returns g c = flushes-last _ _ (all-then c.in_ok-put_all_found.ensures c.in_ok-put_rest.ensures) c.finish.ensures
