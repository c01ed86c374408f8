use Rattle.pam_codes.proofs.Writing.{flushes-last}
use Rattle.pam_render.proofs.text.about.write_known.Goals as goal

pub returns : goal.returns
returns g c = flushes-last _ _ c.in_ok-write_facts.ensures c.finish.ensures
