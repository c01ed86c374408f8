use Rattle.pam_compare.proofs.Once.{after-once}
use Rattle.pam_compare.proofs.laws.held_once.Goals as goal

pub returns : goal.returns
returns c = after-once
