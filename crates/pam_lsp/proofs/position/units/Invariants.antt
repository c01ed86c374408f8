-- the units of the bytes so far
use Rattle.std.proofs.Common.{◌≡◌, ◌≤◌, ◌*◌, sum_by, take}
use Rattle.pam_lsp.specs.Positions.{units_of_byte}
use Rattle.pam_lsp.proofs.position.units.Given as goal

abbrev pub invariant-loop-byte : goal.invariant-loop-byte
invariant-loop-byte l = record {
  value : l.units ≡ sum_by (units_of_byte l.encoding) (take l.byte-index l.text);
  bound : l.units ≤ 2 * l.byte-index;
}
