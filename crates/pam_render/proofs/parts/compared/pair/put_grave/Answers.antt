use Rattle.pam_text.proofs.Writing.{writes-then}
use Rattle.pam_render.proofs.parts.compared.pair.put_grave.Goals as goal

pub returns : goal.returns
returns g c = writes-then _ _ _ c.in_ok-put_change_if_any.ensures c.put_change_if_any-2.ensures
