use Rattle.pam_facts.proofs.ArgumentProofs.LawSteps.{free_takes}
use Rattle.pam_facts.proofs.arguments.laws.free_takes_any.Goals as goal

pub returns : goal.returns
returns c = free_takes
