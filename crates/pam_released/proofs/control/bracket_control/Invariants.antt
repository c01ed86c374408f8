use Rattle.std.proofs.Common.{◌≡◌, All, IfSome, length}
use Rattle.pam_codes.specs.Action.{IsAction}
use Rattle.pam_released.specs.Control.{released_actions}
use Rattle.pam_released.proofs.ControlReading.{Left}
use Rattle.pam_released.proofs.control.bracket_control.Given as goal

abbrev pub invariant-loop-rest : goal.invariant-loop-rest
invariant-loop-rest l = record {
  few : length l.named ≡ 31;
  named : All (λ action. IfSome action IsAction) l.named;
  default : IfSome l.default IsAction;
  left : Left l.release l.named l.default l.rest (released_actions l.release l.inside);
}

abbrev pub decreases-loop-rest : goal.decreases-loop-rest
decreases-loop-rest l = length l.rest
