use Rattle.std.proofs.Common.{codes}
use Rattle.pam_codes.proofs.Writing.{writes-is}
use Rattle.pam_render.specs.text.Compare.{as_line, head_text}
use Rattle.pam_render.specs.parts.ComparedView.{head_view}
use Rattle.pam_render.proofs.TextProofs.CompareTexts.{parts-4}
use Rattle.pam_render.proofs.text.compare.stack.put_as.Goals as goal

pub returns : goal.returns
unfolding as_line
returns g c =
    writes-is _ _ _ _ _ _ c.put_parts.ensures
    (parts-4 (head_text (head_view c.args.head)) (codes " as ") (head_text (head_view c.args.first)) (codes "\n"))
