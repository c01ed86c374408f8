use Rattle.pam_paths.proofs.CodeDigits.{one_digit}
use Rattle.pam_paths.proofs.digits.one_digit.Goals as goal

pub returns : goal.returns
returns c = let digit = c.in_ok-digit.ensures in rw c.new.ensures (one_digit c.args.ones _ digit.0 digit.1)
