use Rattle.std.proofs.Common.{ap}
use Rattle.json.specs.Print.{quoted}
use Rattle.pam_codes.proofs.Writing.{err-front, front-longer, writes-is, writes-then}
use Rattle.pam_render.proofs.json_text.steps.put_code.Goals as goal

pub returns-in_err-put_comma : goal.returns-in_err-put_comma
returns-in_err-put_comma g c = err-front _ c.from_residual.ensures.0 (front-longer _ c.in_err-put_comma.ensures)

pub returns : goal.returns
returns g c = writes-then _ _ _ c.in_ok-put_comma.ensures (writes-is _ _ _ _ _ _ c.put_quoted.ensures (ap quoted c.name_of.ensures))
