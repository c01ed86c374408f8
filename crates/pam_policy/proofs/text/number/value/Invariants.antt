use Rattle.std.proofs.Common.{◌≡◌, ◌<◌, ◌^◌, take}
use Rattle.pam_codes.specs.Action.{decimal_value}
use Rattle.pam_policy.proofs.text.number.value.Given as goal

abbrev pub invariant-loop-digit : goal.invariant-loop-digit
invariant-loop-digit l = record {
  value : l.number ≡ decimal_value (take l.digit-index l.digits);
  bound : l.number < 10 ^ l.digit-index;
}
