use Rattle.pam_dispatch.proofs.OpenRuns.{final_state-runs_of_stack, decision_of-runs_of_stack, asked_by-runs_of_stack}
use Rattle.pam_dispatch.proofs.laws.open_run.Goals as goal

pub returns-clause-ends : goal.returns-clause-ends
returns-clause-ends c = final_state-runs_of_stack

pub returns-clause-asks : goal.returns-clause-asks
returns-clause-asks c = asked_by-runs_of_stack

pub returns-clause-decides : goal.returns-clause-decides
returns-clause-decides c = decision_of-runs_of_stack
