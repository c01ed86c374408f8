use Rattle.std.proofs.Common.{◌++◌, codes}
use Rattle.pam_codes.proofs.Writing.{all-then, err-front, front-longer, front-then, writes-then}
use Rattle.pam_codes.specs.ControlText.{control_text}
use Rattle.pam_render.specs.text.Released.{shown_words}
use Rattle.pam_render.specs.text.WordText.{shown_word_text}
use Rattle.pam_render.proofs.text.released.put_module.Goals as goal

pub returns-in_err-put : goal.returns-in_err-put
returns-in_err-put g c =
    err-front _ c.from_residual.ensures.0
    (front-longer (shown_words c.args.arguments.now)
    (front-longer (codes " " ++ shown_word_text c.args.path.now) (front-longer (control_text c.args.control.now) c.in_err-put.ensures)))

pub returns-in_err-write_text : goal.returns-in_err-write_text
returns-in_err-write_text g c =
    err-front _ c.from_residual-in_err-write_text.ensures.0
    (front-longer _ (front-longer _ (front-then c.in_ok-put.ensures c.in_err-write_text.ensures)))

pub returns-in_err-put_shown : goal.returns-in_err-put_shown
returns-in_err-put_shown g c =
    err-front _ c.from_residual-in_err-put_shown.ensures.0
    (front-longer _ (front-then (all-then c.in_ok-put.ensures c.in_ok-write_text.ensures) c.in_err-put_shown.ensures))

pub returns : goal.returns
returns g c =
    writes-then _ _ _ (all-then (all-then c.in_ok-put.ensures c.in_ok-write_text.ensures) c.in_ok-put_shown.ensures) c.put_arguments.ensures
