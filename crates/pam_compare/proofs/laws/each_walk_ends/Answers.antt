use Rattle.pam_compare.proofs.Questions.{each-ends}
use Rattle.pam_compare.proofs.laws.each_walk_ends.Goals as goal

pub returns : goal.returns
returns c = each-ends
