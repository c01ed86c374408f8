use Rattle.std.proofs.Common.{◌∙◌, ◌-◌, sym, arith, refl}
use Rattle.std.proofs.lemmas.Nat.Bits.{ones_shl}
use Rattle.pam_tables.specs.Network.{ones}
use Rattle.pam_tables.proofs.BitSteps.{ones_is}
use Rattle.pam_tables.proofs.network.v6_ones.Goals as goal

pub returns-then-count-eq0 : goal.returns-then-count-eq0
unfolding ones
returns-then-count-eq0 c = rw c.if-count-eq0.true refl

pub returns-else-count-eq0 : goal.returns-else-count-eq0
returns-else-count-eq0 c = ones_shl 128 (128 - c.args.count) (omega arith) ∙ sym (ones_is 128 c.args.count c.requires)
