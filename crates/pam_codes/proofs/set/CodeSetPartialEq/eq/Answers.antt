use Rattle.std.proofs.Common.{arith}
use Rattle.pam_codes.specs.inner.SetBits.{bits_of_codes-codes_of_bits}
use Rattle.pam_codes.proofs.set.CodeSetPartialEq.eq.Goals as goal

pub returns : goal.returns
returns c = grind (arith, bits_of_codes-codes_of_bits)
