use Rattle.std.proofs.Common.{◌∙◌, sym}
use Rattle.pam_tables.proofs.AccessSteps.{permission_kept}
use Rattle.pam_tables.proofs.access.Permission.of_field.Goals as goal

pub returns-in-Ok : goal.returns-in-Ok
returns-in-Ok c = permission_kept c.args.text.now c.in-Ok.permission (sym c.in-Ok.is ∙ c.read.ensures)
