use Rattle.std.proofs.Common.{◌∙◌, Bool, ap, not, sym}
use Rattle.pam_released.specs.Lines.{physical_lines}
use Rattle.pam_released.specs.Numbered.{is_fed_before}
use Rattle.pam_released.proofs.Scanning.{fed_before_others, fed_if_closed}
use Rattle.pam_released.proofs.assembly.is_fed_before.Goals as goal

pub returns-then-closed : goal.returns-then-closed
returns-then-closed c = c.if-closed.true ∙ fed_if_closed c.args.closed c.args.after.now c.if-closed.true

pub returns-else-closed : goal.returns-else-closed
returns-else-closed c =
    ap not c.is_empty.ensures ∙ fed_before_others c.args.after.now
    ∙ sym (ap (λ (t : Bool). is_fed_before t (physical_lines c.args.after.now)) c.if-closed.false)
