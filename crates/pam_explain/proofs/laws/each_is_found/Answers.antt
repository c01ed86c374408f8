use Rattle.std.proofs.Common.{refl}
use Rattle.pam_explain.specs.Explanations.{families}
use Rattle.pam_explain.proofs.laws.each_is_found.Goals as goal

pub returns : goal.returns
unfolding families
returns c = refl
