use Rattle.pam_released.proofs.RowLemmas.{rows_of}
use Rattle.pam_released.proofs.laws.each_finding_is_a_row.Goals as goal

pub returns : goal.returns
returns c = rows_of
