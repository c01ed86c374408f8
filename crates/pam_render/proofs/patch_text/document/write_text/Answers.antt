use Rattle.pam_text.proofs.Writing.{flushes-last}
use Rattle.pam_render.proofs.patch_text.document.write_text.Goals as goal

pub returns : goal.returns
returns g c = flushes-last _ _ c.in_ok-put.ensures c.finish.ensures
