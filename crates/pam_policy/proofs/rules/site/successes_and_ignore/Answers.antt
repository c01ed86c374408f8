use Rattle.pam_policy.proofs.TextProofs.CodeSteps.{three_codes}
use Rattle.pam_policy.proofs.rules.site.successes_and_ignore.Goals as goal

pub returns : goal.returns
returns c = rw (c.insert.ensures, c.successes-codes.ensures) three_codes
