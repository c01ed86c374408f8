use Rattle.pam_policy.proofs.TextProofs.CodeSteps.{two_codes}
use Rattle.pam_policy.proofs.text.ending.letting_in.Goals as goal

pub returns-in-Account : goal.returns-in-Account
returns-in-Account c = rw (c.in-Account.is, c.insert.ensures, c.single-codes.ensures) two_codes
