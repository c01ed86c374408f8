use Rattle.pam_released.proofs.TablesProofs.RowLemmas.{access_rows, time_rows}
use Rattle.pam_released.proofs.tables.laws.each_finding_is_a_row.Goals as goal

pub returns : goal.returns
returns c = record { access = access_rows; time = time_rows }
