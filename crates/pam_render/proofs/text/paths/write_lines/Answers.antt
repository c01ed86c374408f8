use Rattle.pam_codes.proofs.Writing.{all-is, err-flushes, flushes-last, front-is}
use Rattle.pam_render.proofs.TextProofs.PageTexts.{limit-is}
use Rattle.pam_render.proofs.text.paths.write_lines.Goals as goal

pub returns-in_err-put_page : goal.returns-in_err-put_page
returns-in_err-put_page g c = err-flushes _ c.from_residual.ensures.0 (front-is c.in_err-put_page.ensures.written (limit-is _ _ c.limit.ensures.most))

pub returns : goal.returns
returns g c = flushes-last _ _ (all-is c.in_ok-put_page.ensures.written (limit-is _ _ c.limit.ensures.most)) c.finish.ensures
