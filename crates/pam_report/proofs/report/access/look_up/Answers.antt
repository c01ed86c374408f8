use Rattle.std.proofs.Common.{is_some}
use Rattle.pam_report.specs.Inputs.{group_file}
use Rattle.pam_report.proofs.report.access.look_up.Goals as goal

pub returns-in-Ok-clause-wants : goal.returns-in-Ok-clause-wants
returns-in-Ok-clause-wants c = c.look_up_in.ensures.wants (is_some (group_file c.args.inputs.now))
