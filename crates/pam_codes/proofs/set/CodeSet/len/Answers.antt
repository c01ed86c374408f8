use Rattle.std.proofs.Common.{◌∙◌, ap, length}
use Rattle.pam_codes.proofs.CodeSets.{count_of_bits, codes_of_bits-is_set}
use Rattle.pam_codes.proofs.set.CodeSet.len.Goals as goal

pub returns-clause-count : goal.returns-clause-count
returns-clause-count c = count_of_bits c.self.inside.bits c.self.invariant ∙ ap length c.self.view_is

pub returns-clause-order : goal.returns-clause-order
returns-clause-order c = rw (← c.self.view_is) (codes_of_bits-is_set c.self.inside.bits)
