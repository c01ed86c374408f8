use Rattle.pam_tables.proofs.ListSteps.{list_begins}
use Rattle.pam_tables.proofs.lists.ListState.new.Goals as goal

pub returns : goal.returns
returns c = list_begins
