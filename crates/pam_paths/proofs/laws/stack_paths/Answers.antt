use Rattle.pam_paths.proofs.Trees.{path_of-stack}
use Rattle.pam_paths.proofs.laws.stack_paths.Goals as goal

pub returns : goal.returns
returns c = path_of-stack
