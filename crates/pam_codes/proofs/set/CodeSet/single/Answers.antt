use Rattle.std.proofs.Common.{arith}
use Rattle.pam_codes.proofs.CodeSets.{shifted_below, codes_of_bits-one}
use Rattle.pam_codes.proofs.set.CodeSet.single.Goals as goal

pub invariant_of-result : goal.invariant_of-result
invariant_of-result c = shifted_below _ c.number.ensures.range

pub returns : goal.returns
returns c = rw c.number.ensures.value (codes_of_bits-one c.args.code (omega (arith, c.number.ensures.range, c.number.ensures.value)))
