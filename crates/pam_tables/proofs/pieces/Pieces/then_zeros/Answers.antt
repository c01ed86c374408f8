use Rattle.std.proofs.Common.{◌∙◌, ◌+◌, ◌-◌, ap, ℕ, arith, replicate}
use Rattle.pam_tables.specs.Address.{number_from}
use Rattle.pam_tables.proofs.PieceSteps.{one_zero}
use Rattle.pam_tables.proofs.pieces.Pieces.then_zeros.Goals as goal

pub loop-zero-preserved : goal.loop-zero-preserved
loop-zero-preserved c = record {
  count = omega arith;
  number = ap (λ (n : ℕ). number_from 65536 n (replicate (c.args.count - (c.loop-zero._zero + 1)) 0)) c.push-pieces.ensures.number
      ∙ one_zero c.loop-zero.pieces.number c.args.count c.loop-zero._zero c.loop-zero-test.true ∙ c.loop-zero.invariant.number;
}
