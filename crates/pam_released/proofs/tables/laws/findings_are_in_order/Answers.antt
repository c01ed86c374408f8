use Rattle.pam_released.proofs.TablesProofs.Order.{access_in_order, time_in_order}
use Rattle.pam_released.proofs.tables.laws.findings_are_in_order.Goals as goal

pub returns : goal.returns
returns c = record { access = access_in_order; time = time_in_order }
