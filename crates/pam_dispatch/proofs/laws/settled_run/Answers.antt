use Rattle.pam_dispatch.proofs.SettledRuns.{settled-asks, settled-ends}
use Rattle.pam_dispatch.proofs.laws.settled_run.Goals as goal

pub returns-clause-asks : goal.returns-clause-asks
returns-clause-asks c = settled-asks

pub returns-clause-ends : goal.returns-clause-ends
returns-clause-ends c = settled-ends
