-- Laws of the definitions (pam.conf(5), "control").
use Rattle.std.specs.Prelude.{◌≡◌, List, Ok}
use Rattle.pam_codes.specs.declared.action.Action.{Action}
use Rattle.pam_codes.specs.Control.{IsControl, control_of}
use Rattle.pam_codes.specs.ControlText.{control_text}

-- the written text of a control is read as the same 31 actions
abbrev pub ReadsAsWritten : Type 0
ReadsAsWritten = (actions : List Action) → IsControl actions → control_of (control_text actions) ≡ Ok actions
