use Rattle.std.proofs.Common.{arith}
use Rattle.pam_codes.proofs.CodeSets.{is_in-codes_of_bits}
use Rattle.pam_codes.proofs.set.CodeSet.contains.Goals as goal

pub returns : goal.returns
returns c =
    rw (c.number.ensures.value, ← c.self.view_is)
    (is_in-codes_of_bits c.self.inside.bits c.args.code (omega (arith, c.number.ensures.range, c.number.ensures.value)))
