use Rattle.pam_compare.proofs.Alike.{decide-alike}
use Rattle.pam_compare.proofs.laws.same_items.Goals as goal

pub returns : goal.returns
returns c = decide-alike
