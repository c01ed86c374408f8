use Rattle.std.proofs.Common.{codes}
use Rattle.pam_codes.proofs.Writing.{writes-is}
use Rattle.pam_render.specs.text.Compare.{argument_line, arguments_text, head_text, old_module}
use Rattle.pam_render.specs.parts.ComparedView.{head_view}
use Rattle.pam_render.proofs.TextProofs.CompareTexts.{parts-8}
use Rattle.pam_render.proofs.text.compare.pair.put_argument_line.Goals as goal

pub returns : goal.returns
unfolding argument_line
returns g c =
    writes-is _ _ _ _ _ _ c.put_parts.ensures
    (parts-8 (head_text (head_view c.args.stack.head)) (codes " arguments of ") (old_module c.args.stack.pair.now c.args.matched.old) (codes ": \"")
    (arguments_text c.args.stack.pair.now.old c.args.matched.old) (codes "\" becomes \"")
    (arguments_text c.args.stack.pair.now.new c.args.matched.new) (codes "\"\n"))
