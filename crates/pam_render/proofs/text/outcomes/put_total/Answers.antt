use Rattle.pam_codes.proofs.Writing.{all-then, err-front, front-longer, front-then, writes-then}
use Rattle.std.proofs.Common.{codes}
use Rattle.pam_render.specs.parts.Ways.{count_text}
use Rattle.pam_render.specs.text.Outcomes.{total_line}
use Rattle.pam_render.proofs.text.outcomes.put_total.Goals as goal

pub returns-in_err-put : goal.returns-in_err-put
unfolding total_line
returns-in_err-put g c = err-front _ c.from_residual.ensures.0 (front-longer (codes " ways\n") (front-longer (count_text c.args.total) c.in_err-put.ensures))

pub returns-in_err-put_count : goal.returns-in_err-put_count
unfolding total_line
returns-in_err-put_count g c =
    err-front _ c.from_residual-in_err-put_count.ensures.0 (front-longer _ (front-then c.in_ok-put.ensures c.in_err-put_count.ensures))

pub returns : goal.returns
unfolding total_line
returns g c = writes-then _ _ _ (all-then c.in_ok-put.ensures c.in_ok-put_count.ensures) c.put-2.ensures
