use Rattle.pam_codes.proofs.CodeSets.{codes_of_bits-ones}
use Rattle.pam_codes.proofs.set.CodeSet.all.Goals as goal

pub returns : goal.returns
returns c = codes_of_bits-ones
