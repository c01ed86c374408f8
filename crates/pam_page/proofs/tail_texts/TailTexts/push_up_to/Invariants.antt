use Rattle.std.proofs.Common.{◌-◌}
use Rattle.pam_page.proofs.tail_texts.TailTexts.push_up_to.Given as goal

abbrev pub decreases-loop-self : goal.decreases-loop-self
decreases-loop-self l = l.count - l.self
