use Rattle.pam_cli.proofs.PasswdMembers.{listed}
use Rattle.pam_cli.proofs.laws.primary_members.Goals as goal

pub returns : goal.returns
returns c = listed
