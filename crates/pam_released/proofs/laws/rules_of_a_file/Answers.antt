use Rattle.pam_released.proofs.RuleLines.{same_rules}
use Rattle.pam_released.proofs.laws.rules_of_a_file.Goals as goal

pub returns : goal.returns
returns c = same_rules
