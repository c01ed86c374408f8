use Rattle.pam_codes.proofs.Writing.{flushes-last}
use Rattle.pam_render.proofs.text.explain.write_explanations.Goals as goal

pub returns : goal.returns
returns g c = flushes-last _ _ c.in_ok-put_rows.ensures c.finish.ensures
