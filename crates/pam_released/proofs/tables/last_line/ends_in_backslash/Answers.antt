use Rattle.std.proofs.Common.{◌∙◌, ap, sym}
use Rattle.pam_released.specs.Lines.{ends_in_backslash}
use Rattle.pam_released.proofs.Scanning.{last_backslash, nothing_last_backslash}
use Rattle.pam_released.proofs.tables.last_line.ends_in_backslash.Goals as goal

pub returns-in-Some : goal.returns-in-Some
returns-in-Some c = sym (ap ends_in_backslash c.in-Some.ensures.cases.0 ∙ last_backslash c.in-Some.field-0-1.now c.in-Some.last.now)

pub returns-in-None : goal.returns-in-None
returns-in-None c = sym (nothing_last_backslash c.args.text.now c.in-None.ensures.cases)
