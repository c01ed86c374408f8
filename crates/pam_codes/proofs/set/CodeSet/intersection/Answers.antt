use Rattle.pam_codes.proofs.SetAlgebra.{codes_of_bits-and}
use Rattle.pam_codes.proofs.set.CodeSet.intersection.Goals as goal

pub returns : goal.returns
returns c = rw (← c.self.view_is, ← c.other.view_is) (codes_of_bits-and c.self.inside.bits c.other.inside.bits)
