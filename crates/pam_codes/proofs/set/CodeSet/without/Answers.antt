use Rattle.std.proofs.Common.{arith}
use Rattle.pam_codes.proofs.SetAlgebra.{codes_of_bits-without}
use Rattle.pam_codes.proofs.set.CodeSet.without.Goals as goal

pub returns : goal.returns
returns c = rw (← c.self.view_is, ← c.other.view_is) (codes_of_bits-without c.self.inside.bits c.other.inside.bits (omega (arith, c.other.invariant)))
