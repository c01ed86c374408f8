use Rattle.std.proofs.Common.{IsFalse, subst}
use Rattle.pam_conf.proofs.SurveyLemmas.{not_end}
use Rattle.pam_conf.proofs.survey.Survey.is_empty.Goals as goal

pub returns-in-Some-clause-other : goal.returns-in-Some-clause-other
returns-in-Some-clause-other c = λ more.
    not_end c.items.result.now c.args.self.now.stack c.in-Some.stack c.in-Some.is c.items.ensures.items (subst IsFalse c.is_empty.ensures more)
