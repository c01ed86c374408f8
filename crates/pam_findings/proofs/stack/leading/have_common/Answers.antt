use Rattle.pam_findings.proofs.StackProofs.Leading.{same-common}
use Rattle.pam_findings.proofs.stack.leading.have_common.Goals as goal

pub returns : goal.returns
returns c = same-common c.args.one c.args.other c.meets.result c.meets.ensures
