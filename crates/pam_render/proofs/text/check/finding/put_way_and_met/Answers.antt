use Rattle.pam_codes.proofs.Writing.{writes-then}
use Rattle.pam_render.proofs.text.check.finding.put_way_and_met.Goals as goal

pub returns : goal.returns
returns g c = writes-then _ _ _ c.in_ok-put_first_way.ensures c.put_met_unless_named.ensures
