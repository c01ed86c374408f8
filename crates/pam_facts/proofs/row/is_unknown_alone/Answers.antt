use Rattle.pam_facts.proofs.FactSteps.{no_code_alone}
use Rattle.pam_facts.proofs.row.is_unknown_alone.Goals as goal

pub returns-in-None : goal.returns-in-None
returns-in-None c = no_code_alone _ c.in-None.ensures.first
