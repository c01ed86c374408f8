use Rattle.pam_dispatch.proofs.Retelling.{outcome-retold, outcome-shared}
use Rattle.pam_dispatch.proofs.laws.outcomes_of_one_action.Goals as goal

pub returns-clause-retold : goal.returns-clause-retold
returns-clause-retold c = outcome-retold

pub returns-clause-shared : goal.returns-clause-shared
returns-clause-shared c = outcome-shared
