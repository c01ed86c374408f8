use Rattle.pam_conf.proofs.FileFaults.{first_fault}
use Rattle.pam_conf.proofs.laws.first_fault_or_rules.Goals as goal

pub returns : goal.returns
returns c = first_fault
