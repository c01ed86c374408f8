use Rattle.std.proofs.Common.{◌≡◌, ◌<◌, take}
use Rattle.std.specs.Prelude.{◌%◌}
use Rattle.pam_codes.specs.Action.{decimal_value}
use Rattle.pam_released.proofs.control.last_bits.Given as goal

abbrev pub invariant-loop-digit : goal.invariant-loop-digit
invariant-loop-digit l = record {
  same : l.bits ≡ decimal_value (take l.digit-index l.digits) % 4294967296;
  bound : l.bits < 4294967296;
}
