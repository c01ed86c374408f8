use Rattle.pam_conf.proofs.ListedWalks.{list-walk}
use Rattle.pam_conf.proofs.laws.list_of_a_walk.Goals as goal

pub returns : goal.returns
returns c = list-walk
