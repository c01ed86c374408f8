use Rattle.std.proofs.Common.{sym}
use Rattle.pam_conf.proofs.RuleSteps.{calls}
use Rattle.pam_conf.proofs.wanted.calls_module.Goals as goal

pub returns-in-Some-split_word : goal.returns-in-Some-split_word
returns-in-Some-split_word c = λ h. calls _ _ _ _ _ c.in-Some.ensures c.in-Some-split_word.ensures (c.is_closed.ensures h) (sym c.in-Ok.ensures)
