use Rattle.std.proofs.Common.{◌≡◌, ◌≤◌, length}
use Rattle.pam_released.specs.Control.{after_spaces}
use Rattle.pam_released.proofs.control.after_spaces.Given as goal

abbrev pub invariant-loop-first : goal.invariant-loop-first
invariant-loop-first l = record {
  same : after_spaces l.text ≡ after_spaces l.rest;
  shorter : length l.rest ≤ length l.text;
}

abbrev pub decreases-loop-first : goal.decreases-loop-first
decreases-loop-first l = length l.rest
