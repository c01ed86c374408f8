use Rattle.pam_dispatch.proofs.Retelling.{outcomes-differ}
use Rattle.pam_dispatch.proofs.laws.outcomes_that_differ.Goals as goal

pub returns : goal.returns
returns c = outcomes-differ
