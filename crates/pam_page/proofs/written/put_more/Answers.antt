use Rattle.pam_codes.proofs.Writing.{all-then, err-front, front-longer, front-then, writes-then}
use Rattle.pam_page.specs.Page.{last_line}
use Rattle.pam_page.proofs.written.put_more.Goals as goal

pub returns-in_err-put_line : goal.returns-in_err-put_line
unfolding last_line
returns-in_err-put_line g c = err-front _ c.from_residual.ensures.0 (front-longer _ (front-longer _ c.in_err-put_line.ensures))

pub returns-in_err-write_text : goal.returns-in_err-write_text
unfolding last_line
returns-in_err-write_text g c =
    err-front _ c.from_residual-in_err-write_text.ensures.0 (front-longer _ (front-then c.in_ok-put_line.ensures c.in_err-write_text.ensures))

pub returns : goal.returns
unfolding last_line
returns g c = writes-then _ _ _ (all-then c.in_ok-put_line.ensures c.in_ok-write_text.ensures) c.put.ensures
