use Rattle.pam_codes.proofs.Writing.{err-front, front-longer, writes-then}
use Rattle.pam_render.specs.text.Compare.{asked_text}
use Rattle.pam_render.proofs.text.compare.asked.put_next_one.Goals as goal

pub returns-in_err-put : goal.returns-in_err-put
returns-in_err-put g c =
    err-front _ c.from_residual.ensures.0 (front-longer (asked_text c.args.pair.now c.args.asked.now) c.in_err-put.ensures)

pub returns : goal.returns
returns g c = writes-then _ (asked_text c.args.pair.now c.args.asked.now) _ c.in_ok-put.ensures c.put_asked.ensures
