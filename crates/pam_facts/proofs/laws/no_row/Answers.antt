use Rattle.pam_facts.proofs.FactSteps.{no_row_is_unknown}
use Rattle.pam_facts.proofs.laws.no_row.Goals as goal

pub returns : goal.returns
returns c = no_row_is_unknown
