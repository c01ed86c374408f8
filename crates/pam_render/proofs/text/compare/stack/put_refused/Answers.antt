use Rattle.std.proofs.Common.{codes}
use Rattle.pam_codes.proofs.Writing.{writes-is}
use Rattle.pam_report.specs.ReplyViews.{side_files}
use Rattle.pam_render.specs.text.Compare.{head_text, refused_line, side_text}
use Rattle.pam_render.specs.parts.ComparedView.{head_view}
use Rattle.pam_render.proofs.TextProofs.CompareTexts.{parts-6}
use Rattle.pam_render.proofs.text.compare.stack.put_refused.Goals as goal

pub returns : goal.returns
unfolding refused_line
returns g c =
    writes-is _ _ _ _ _ _ c.put_parts.ensures
    (parts-6 (head_text (head_view c.args.stack.head)) (codes " refused: old ") (side_text (side_files c.args.stack.old.files) c.args.stack.old.fault.now)
    (codes ", new ") (side_text (side_files c.args.stack.new.files) c.args.stack.new.fault.now) (codes "\n"))
