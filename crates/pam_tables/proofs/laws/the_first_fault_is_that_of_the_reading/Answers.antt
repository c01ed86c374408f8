use Rattle.pam_tables.proofs.FaultSteps.{first_access_fault, first_group_fault}
use Rattle.pam_tables.proofs.laws.the_first_fault_is_that_of_the_reading.Goals as goal

pub returns : goal.returns
returns c = record { access = first_access_fault; groups = first_group_fault }
