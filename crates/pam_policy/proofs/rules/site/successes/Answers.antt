use Rattle.pam_policy.proofs.TextProofs.CodeSteps.{two_codes}
use Rattle.pam_policy.proofs.rules.site.successes.Goals as goal

pub returns : goal.returns
returns c = rw (c.insert.ensures, c.single-codes.ensures) two_codes
