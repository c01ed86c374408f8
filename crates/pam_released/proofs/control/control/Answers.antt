use Rattle.std.proofs.Common.{◌∙◌, sym}
use Rattle.pam_released.proofs.ControlKeywords.{bracket_is_none, keyword_read, unread_is_none}
use Rattle.pam_released.proofs.control.control.Goals.{in_default-via-in-Ok+else-not-starts_with, in_default-via-in_default}
use Rattle.pam_released.proofs.control.control.Goals as goal

pub returns-in-Ok : goal.returns-in-Ok
returns-in-Ok c = keyword_read c.args.release c.args.text.now c.in-Ok.control (sym c.starts_with.ensures.value ∙ c.if-not-starts_with.true) c.in-Ok.ensures

pub returns-in_default : goal.returns-in_default
returns-in_default c =
    c.bracket_control.ensures ∙ elim c.in_default.branch [
      | in_default-via-in-Ok+else-not-starts_with w ↦
          bracket_is_none c.args.release c.args.text.now (sym w.starts_with.ensures.value ∙ w.if-not-starts_with.false)
      | in_default-via-in_default w ↦ unread_is_none c.args.release c.args.text.now w.in_default.field-0 w.in_default.ensures
    ]
