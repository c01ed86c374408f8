use Rattle.pam_tables.proofs.TimesProofs.FaultSteps.{first_time_fault}
use Rattle.pam_tables.proofs.times.laws.the_first_fault_is_that_of_the_reading.Goals as goal

pub returns : goal.returns
returns c = first_time_fault
