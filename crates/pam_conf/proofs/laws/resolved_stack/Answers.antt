use Rattle.pam_conf.proofs.ResolvedStacks.{resolved_stack}
use Rattle.pam_conf.proofs.laws.resolved_stack.Goals as goal

pub returns : goal.returns
returns c = resolved_stack
