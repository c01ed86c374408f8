use Rattle.std.proofs.Common.{◌∙◌, ap, sym}
use Rattle.pam_released.specs.Findings.{ends_in_blank}
use Rattle.pam_released.proofs.Scanning.{last_blank, nothing_last_blank}
use Rattle.pam_released.proofs.tables.rows.ends_in_blank.Goals as goal

pub returns-in-Some : goal.returns-in-Some
returns-in-Some c = c.is_table_blank.ensures ∙ sym (ap ends_in_blank c.in-Some.ensures.cases.0 ∙ last_blank c.in-Some.field-0-1.now c.in-Some.last.now)

pub returns-in-None : goal.returns-in-None
returns-in-None c = sym (nothing_last_blank c.args.text.now c.in-None.ensures.cases)
