use Rattle.pam_codes.proofs.Writing.{all-then, err-front, front-longer, front-then, writes-then}
use Rattle.pam_drawing.specs.Drawing.{dot_closing}
use Rattle.pam_drawing.proofs.node.put_dot_closing.Goals as goal

pub returns-in_err-put_node_style : goal.returns-in_err-put_node_style
unfolding dot_closing
returns-in_err-put_node_style g c = err-front _ c.from_residual.ensures.0 (front-longer _ (front-longer _ c.in_err-put_node_style.ensures))

pub returns-in_err-put_state : goal.returns-in_err-put_state
unfolding dot_closing
returns-in_err-put_state g c =
    err-front _ c.from_residual-in_err-put_state.ensures.0
    (front-longer _ (front-then c.in_ok-put_node_style.ensures c.in_err-put_state.ensures))

pub returns : goal.returns
unfolding dot_closing
returns g c = writes-then _ _ _ (all-then c.in_ok-put_node_style.ensures c.in_ok-put_state.ensures) c.put.ensures
