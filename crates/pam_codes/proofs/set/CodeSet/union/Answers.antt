use Rattle.std.proofs.lemmas.Nat.{or_lt}
use Rattle.pam_codes.proofs.SetAlgebra.{codes_of_bits-or}
use Rattle.pam_codes.proofs.set.CodeSet.union.Goals as goal

pub invariant_of-result : goal.invariant_of-result
invariant_of-result c = or_lt 31 _ _ c.self.invariant c.other.invariant

pub returns : goal.returns
returns c = rw (← c.self.view_is, ← c.other.view_is) (codes_of_bits-or c.self.inside.bits c.other.inside.bits)
