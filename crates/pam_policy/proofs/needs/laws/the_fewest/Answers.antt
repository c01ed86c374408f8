use Rattle.pam_policy.proofs.NeedsProofs.Laws.{fewest-are-needed, none-left-out, one-fewest}
use Rattle.pam_policy.proofs.needs.laws.the_fewest.Goals as goal

pub returns-clause-needed : goal.returns-clause-needed
returns-clause-needed c = fewest-are-needed

pub returns-clause-none : goal.returns-clause-none
returns-clause-none c = none-left-out

pub returns-clause-one : goal.returns-clause-one
returns-clause-one c = one-fewest
