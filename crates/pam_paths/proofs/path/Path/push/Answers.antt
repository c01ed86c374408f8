use Rattle.pam_paths.proofs.Tails.{end-none}
use Rattle.pam_paths.proofs.path.Path.push.Goals as goal

pub invariant_of-self : goal.invariant_of-self
invariant_of-self c = end-none _
