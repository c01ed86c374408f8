use Rattle.pam_findings.proofs.StackProofs.Exactly.{rising_lists}
use Rattle.pam_findings.proofs.StackProofs.Implied.{counting_lets_in, jumping_asked}
use Rattle.pam_findings.proofs.stack.laws.modules.Goals as goal

pub returns-clause-rising : goal.returns-clause-rising
returns-clause-rising c = rising_lists

pub returns-clause-jumping : goal.returns-clause-jumping
returns-clause-jumping c = jumping_asked

pub returns-clause-counting : goal.returns-clause-counting
returns-clause-counting c = counting_lets_in
