use Rattle.pam_codes.proofs.Writing.{writes-is}
use Rattle.pam_report.specs.ReplyViews.{side_files}
use Rattle.pam_render.specs.parts.Changes.{change_name, configuration_name}
use Rattle.pam_render.specs.parts.ComparedView.{head_view}
use Rattle.pam_render.specs.text.Compare.{counted_in, guard_line, guard_words, head_text, rule_place}
use Rattle.pam_render.proofs.TextProofs.CompareTexts.{guard-parts}
use Rattle.pam_render.proofs.text.compare.pair.put_guard.Goals as goal

pub returns : goal.returns
unfolding guard_line
returns g c =
    let one = c.args.one in
    let guarding = c.args.guarding in
    writes-is _ _ _ _ _ _ c.put_parts.ensures
    (guard-parts one.stack.now guarding.number (head_text (head_view one.head)) (rule_place (side_files one.files) one.stack.now guarding.number)
    c.change_name.result.now c.counted_in.result.now c.guard_words.result.now c.configuration_name.result.now
    (change_name one.configuration) (counted_in one.configuration) (guard_words guarding.guard) (configuration_name one.configuration)
    c.change_name.ensures c.counted_in.ensures c.guard_words.ensures c.configuration_name.ensures)
