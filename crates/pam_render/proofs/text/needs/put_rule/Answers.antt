use Rattle.std.proofs.Common.{codes}
use Rattle.pam_codes.proofs.Writing.{err-front, front-longer, writes-then}
use Rattle.pam_render.proofs.text.needs.put_rule.Goals as goal

pub returns-in_err-put_needed_rule : goal.returns-in_err-put_needed_rule
returns-in_err-put_needed_rule g c = err-front _ c.from_residual.ensures.0 (front-longer (codes "\n") c.in_err-put_needed_rule.ensures)

pub returns : goal.returns
returns g c = writes-then _ _ _ c.in_ok-put_needed_rule.ensures c.put.ensures
