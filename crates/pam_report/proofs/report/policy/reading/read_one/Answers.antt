use Rattle.pam_report.proofs.PolicySteps.{unread}
use Rattle.pam_report.proofs.report.policy.reading.read_one.Goals as goal

pub returns-in-Err : goal.returns-in-Err
returns-in-Err c = rw c.policy_fault.ensures (unread c.args.number _ c.in-Err.error c.in-Err.ensures)
