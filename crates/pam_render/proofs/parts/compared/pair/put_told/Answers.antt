use Rattle.pam_text.proofs.Writing.{writes-then}
use Rattle.pam_render.proofs.parts.compared.pair.put_told.Goals as goal

pub returns : goal.returns
returns g c = writes-then _ _ _ c.in_ok-put_decisions.ensures c.put_all_guards.ensures
