use Rattle.pam_report.proofs.PasswdSteps.{first_found, first_whole}
use Rattle.pam_report.proofs.passwd.first_field.Goals as goal

pub returns-in-Some : goal.returns-in-Some
returns-in-Some c = first_found c.args.text.now c.in-Some.field.now c.in-Some.field-0-1.now c.in-Some.ensures.value

pub returns-in-None : goal.returns-in-None
returns-in-None c = first_whole c.args.text.now c.in-None.ensures.value
