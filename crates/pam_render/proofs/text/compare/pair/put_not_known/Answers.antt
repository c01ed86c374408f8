use Rattle.std.proofs.Common.{codes}
use Rattle.pam_codes.proofs.Writing.{writes-is}
use Rattle.std.specs.Prelude.{decimal}
use Rattle.pam_compare.specs.declared.comparing.TheConstants.{MAX_SITUATIONS}
use Rattle.pam_render.specs.text.Compare.{head_text, not_known_line}
use Rattle.pam_render.specs.parts.ComparedView.{head_view}
use Rattle.pam_render.proofs.TextProofs.CompareTexts.{parts-4}
use Rattle.pam_render.proofs.text.compare.pair.put_not_known.Goals as goal

pub returns : goal.returns
unfolding not_known_line
returns g c =
    writes-is _ _ _ _ _ _ c.put_parts.ensures
    (parts-4 (head_text (head_view c.args.head)) (codes " not known: more than ") (decimal MAX_SITUATIONS) (codes " situations\n"))
