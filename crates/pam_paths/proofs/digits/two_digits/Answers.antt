use Rattle.pam_paths.proofs.CodeDigits.{two_digits}
use Rattle.pam_paths.proofs.digits.two_digits.Goals as goal

pub returns : goal.returns
returns c =
    let front = c.in_ok-digit.ensures in
    let back = c.in_ok-digit-2.ensures in
    rw c.new.ensures (two_digits c.args.tens c.args.ones _ _ c.if-tens-eq48.false front.0 front.1 back.0 back.1)
