use Rattle.pam_facts.proofs.LawSteps.{functionless_is_unknown, missing_is_unknown}
use Rattle.pam_facts.proofs.laws.no_function.Goals as goal

pub returns-clause-missing : goal.returns-clause-missing
returns-clause-missing c = missing_is_unknown

pub returns-clause-functionless : goal.returns-clause-functionless
returns-clause-functionless c = functionless_is_unknown
