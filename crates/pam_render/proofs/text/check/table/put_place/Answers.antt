use Rattle.std.proofs.Common.{ap}
use Rattle.pam_codes.proofs.Writing.{all-is, all-then, err-front, front-longer, front-then, writes-then}
use Rattle.pam_render.specs.sentences.Shown.{shown_name}
use Rattle.pam_render.proofs.text.check.table.put_place.Goals as goal

pub returns-in_err-put_line_number : goal.returns-in_err-put_line_number
returns-in_err-put_line_number g c =
    err-front _ c.from_residual-in_err-put_line_number.ensures.0
    (front-longer _ (front-then (all-is c.in_ok-put_name.ensures (ap shown_name c.of.ensures)) c.in_err-put_line_number.ensures))

pub returns : goal.returns
returns g c =
    writes-then _ _ _ (all-then (all-is c.in_ok-put_name.ensures (ap shown_name c.of.ensures)) c.in_ok-put_line_number.ensures) c.put.ensures
