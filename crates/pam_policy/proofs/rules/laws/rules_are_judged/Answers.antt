use Rattle.pam_policy.proofs.RulesProofs.Read.{rules-judged}
use Rattle.pam_policy.proofs.rules.laws.rules_are_judged.Goals as goal

pub returns : goal.returns
returns c = rules-judged
