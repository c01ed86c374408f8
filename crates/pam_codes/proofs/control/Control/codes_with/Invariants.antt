use Rattle.std.proofs.Common.{◌≡◌, get_or}
use Rattle.pam_codes.specs.declared.action.Action.TheVariants.{Ignore}
use Rattle.pam_codes.specs.Action.{same_action}
use Rattle.pam_codes.proofs.CodeByCode.{passed_below}
use Rattle.pam_codes.proofs.control.Control.codes_with.Given as goal

abbrev pub invariant-loop-number : goal.invariant-loop-number
invariant-loop-number l = l.codes ≡ passed_below (λ c. same_action (get_or l.self c Ignore) l.action) l.number
