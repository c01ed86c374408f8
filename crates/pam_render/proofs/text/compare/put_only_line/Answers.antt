use Rattle.pam_codes.proofs.Writing.{writes-then}
use Rattle.pam_render.proofs.text.compare.put_only_line.Goals as goal

pub returns : goal.returns
returns g c = writes-then _ _ _ c.in_ok-put_name.ensures c.put.ensures
