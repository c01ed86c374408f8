use Rattle.pam_tables.proofs.FlagSteps.{none_set}
use Rattle.pam_tables.proofs.flags.Flags.none.Goals as goal

pub returns : goal.returns
returns c = none_set 2500
