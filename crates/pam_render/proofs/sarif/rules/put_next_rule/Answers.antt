use Rattle.pam_text.proofs.Writing.{writes-then}
use Rattle.pam_render.proofs.sarif.rules.put_next_rule.Goals as goal

pub returns : goal.returns
returns g c = writes-then _ _ _ c.in_ok-put_comma.ensures c.put_rule.ensures
