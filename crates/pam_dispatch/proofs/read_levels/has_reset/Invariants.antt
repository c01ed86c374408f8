-- no action so far is a reset
use Rattle.std.proofs.Common.{◌≡◌, false, take}
use Rattle.std.specs.List.{list_any}
use Rattle.pam_dispatch.specs.Representatives.{is_reset}
use Rattle.pam_dispatch.proofs.read_levels.has_reset.Given as goal

abbrev pub invariant-loop-number : goal.invariant-loop-number
invariant-loop-number l = list_any is_reset (take l.number l.control) ≡ false
