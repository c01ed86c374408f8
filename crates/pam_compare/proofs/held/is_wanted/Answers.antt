use Rattle.std.proofs.Common.{inr}
use Rattle.pam_compare.proofs.held.is_wanted.Goals as goal

pub returns-clause-past : goal.returns-clause-past
returns-clause-past c modules count last out = inr (c.is_ahead.ensures.past modules count last out)
