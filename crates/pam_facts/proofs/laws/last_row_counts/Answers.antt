use Rattle.pam_facts.proofs.FactSteps.{last_row, twice}
use Rattle.pam_facts.proofs.laws.last_row_counts.Goals as goal

pub returns-clause-last : goal.returns-clause-last
returns-clause-last c = last_row

pub returns-clause-twice : goal.returns-clause-twice
returns-clause-twice c = twice
