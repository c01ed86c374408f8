use Rattle.std.proofs.Common.{arith}
use Rattle.pam_codes.proofs.CodeSets.{with_bit_below, codes_of_bits-set}
use Rattle.pam_codes.proofs.set.CodeSet.insert.Goals as goal

pub invariant_of-self : goal.invariant_of-self
invariant_of-self c = with_bit_below _ _ c.self.invariant c.number.ensures.range

pub returns : goal.returns
returns c =
    rw (c.number.ensures.value, ← c.self.view_is)
    (codes_of_bits-set c.self.inside.bits c.args.code (omega (arith, c.number.ensures.range, c.number.ensures.value)))
