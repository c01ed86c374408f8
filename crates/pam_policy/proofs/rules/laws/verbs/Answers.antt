use Rattle.pam_policy.proofs.RulesProofs.Laws.{asks-says, needs-says, obeys-says}
use Rattle.pam_policy.proofs.rules.laws.verbs.Goals as goal

pub returns-clause-needs : goal.returns-clause-needs
returns-clause-needs c = needs-says

pub returns-clause-obeys : goal.returns-clause-obeys
returns-clause-obeys c = obeys-says

pub returns-clause-asks : goal.returns-clause-asks
returns-clause-asks c = asks-says
