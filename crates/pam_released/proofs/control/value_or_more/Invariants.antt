use Rattle.std.proofs.Common.{◌≡◌, ◌≤◌, take}
use Rattle.pam_released.specs.inner.Numbers.{value_or_more}
use Rattle.pam_released.proofs.control.value_or_more.Given as goal

abbrev pub invariant-loop-digit : goal.invariant-loop-digit
invariant-loop-digit l = record {
  same : l.value ≡ value_or_more (take l.digit-index l.digits);
  bound : l.value ≤ 4294967296;
}
