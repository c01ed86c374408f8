use Rattle.std.proofs.Common.{◌∙◌, ap}
use Rattle.pam_codes.proofs.Writing.{writes-is}
use Rattle.pam_codes.specs.SetText.{name_of}
use Rattle.pam_render.specs.text.Compare.{asked_texts, change_line, head_text}
use Rattle.pam_render.specs.parts.ComparedView.{head_view}
use Rattle.pam_render.proofs.TextProofs.CompareTexts.{change-parts}
use Rattle.pam_render.proofs.text.compare.pair.put_change.Goals as goal

pub returns : goal.returns
unfolding change_line
returns g c =
    let shown = c.args.shown.now in
    writes-is _ _ _ _ _ _ c.put_parts.ensures
    (change-parts (head_text (head_view c.args.stack.head)) c.args.change.now c.name_of.result.now c.name_of-2.result.now
    (asked_texts c.args.stack.pair.now c.deref.result.now) (name_of shown.witness.old) (name_of shown.witness.new)
    (asked_texts c.args.stack.pair.now shown.asked.items) (c.name_of.ensures ∙ ap name_of c.code.ensures)
    (c.name_of-2.ensures ∙ ap name_of c.code-2.ensures)
    (ap (asked_texts c.args.stack.pair.now) c.deref.ensures.value))
