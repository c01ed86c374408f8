use Rattle.pam_policy.proofs.RulesProofs.Laws.{less-holds, more-settles, one-witness}
use Rattle.pam_policy.proofs.rules.laws.witnesses.Goals as goal

pub returns-clause-more : goal.returns-clause-more
returns-clause-more c = more-settles

pub returns-clause-less : goal.returns-clause-less
returns-clause-less c = less-holds

pub returns-clause-one : goal.returns-clause-one
returns-clause-one c = one-witness
