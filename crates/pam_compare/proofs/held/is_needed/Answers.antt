use Rattle.std.proofs.Common.{inr}
use Rattle.pam_compare.proofs.held.is_needed.Goals as goal

pub returns-clause-settled : goal.returns-clause-settled
returns-clause-settled c modules count last out = inr (c.is_ahead.ensures.past modules count last out)
