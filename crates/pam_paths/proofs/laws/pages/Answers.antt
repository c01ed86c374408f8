use Rattle.pam_paths.proofs.PageProofs.{pages_proof, part_after_proof}
use Rattle.pam_paths.proofs.laws.pages.Goals as goal

pub returns-clause-after : goal.returns-clause-after
returns-clause-after c = part_after_proof

pub returns-clause-joined : goal.returns-clause-joined
returns-clause-joined c = pages_proof
