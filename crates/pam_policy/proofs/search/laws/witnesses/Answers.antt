use Rattle.pam_policy.proofs.SearchProofs.Implied.{more-allowed, one-witness}
use Rattle.pam_policy.proofs.search.laws.witnesses.Goals as goal

pub returns-clause-more : goal.returns-clause-more
returns-clause-more c = more-allowed

pub returns-clause-one : goal.returns-clause-one
returns-clause-one c = one-witness
