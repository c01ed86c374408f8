use Rattle.pam_page.proofs.TailTexts.{no-tail, tail-from}
use Rattle.pam_page.proofs.tail_texts.TailTexts.reach_tail.Goals as goal

pub returns-in_default-clause-tail : goal.returns-in_default-clause-tail
returns-in_default-clause-tail c = no-tail c.args.tail.now c.in_default.ensures.value

pub returns-clause-tail : goal.returns-clause-tail
returns-clause-tail c =
    tail-from c.args.tail.now c.requires c.in-Some.first.now c.number.result c.in-Some-checked_sub.before c.in-Some.ensures.value c.number.ensures
    c.in-Some-checked_sub.ensures.0 c.in-Some-checked_sub.ensures.1
