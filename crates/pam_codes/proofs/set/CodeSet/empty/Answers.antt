use Rattle.pam_codes.proofs.CodeSets.{codes_of_bits-zero}
use Rattle.pam_codes.proofs.set.CodeSet.empty.Goals as goal

pub returns : goal.returns
returns c = codes_of_bits-zero
