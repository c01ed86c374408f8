use Rattle.std.proofs.Common.{codes}
use Rattle.pam_codes.proofs.Writing.{writes-is}
use Rattle.pam_render.specs.text.Compare.{head_text, module_changes, same_line}
use Rattle.pam_render.specs.parts.ComparedView.{head_view}
use Rattle.pam_render.proofs.TextProofs.CompareTexts.{parts-4}
use Rattle.pam_render.proofs.text.compare.pair.put_same.Goals as goal

pub returns : goal.returns
unfolding same_line
returns g c =
    writes-is _ _ _ _ _ _ c.put_parts.ensures
    (parts-4 (head_text (head_view c.args.stack.head)) (codes " same decisions") (module_changes c.args.stack.pair.now) (codes "\n"))
