use Rattle.pam_dispatch.proofs.EqualRests.{equal-ask, equal-end}
use Rattle.pam_dispatch.proofs.laws.equal_rests.Goals as goal

pub returns-clause-asks : goal.returns-clause-asks
returns-clause-asks c = equal-ask

pub returns-clause-ends : goal.returns-clause-ends
returns-clause-ends c = equal-end
