use Rattle.std.proofs.Common.{◌≡◌, ◌+◌, ◌-◌, replicate}
use Rattle.pam_tables.specs.Address.{number_from}
use Rattle.pam_tables.proofs.pieces.Pieces.then_zeros.Given as goal

abbrev pub invariant-loop-zero : goal.invariant-loop-zero
invariant-loop-zero l = record {
  count : l.pieces.count ≡ l.initial.pieces.count + l._zero;
  number : number_from 65536 l.pieces.number (replicate (l.count - l._zero) 0) ≡ number_from 65536 l.initial.pieces.number (replicate l.count 0);
}
