use Rattle.std.proofs.Common.{refl}
use Rattle.pam_codes.proofs.Writing.{writes-is}
use Rattle.pam_render.proofs.TextProofs.ExplainTexts.{line-is}
use Rattle.pam_render.proofs.text.explain.put_example_line.Goals as goal

pub returns : goal.returns
returns g c = writes-is _ _ _ _ _ _ c.put_line.ensures (line-is _ _ refl)
