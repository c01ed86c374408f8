use Rattle.pam_paths.proofs.Tails.{end-none}
use Rattle.pam_paths.proofs.path.Path.empty.Goals as goal

pub invariant_of-result-2 : goal.invariant_of-result-2
invariant_of-result-2 c = end-none _
