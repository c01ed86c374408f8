use Rattle.pam_released.proofs.FileOrder.{file_in_order}
use Rattle.pam_released.proofs.laws.findings_are_in_order.Goals as goal

pub returns : goal.returns
returns c = file_in_order
