use Rattle.pam_paths.proofs.Sharing.{first-inside}
use Rattle.pam_paths.proofs.classes.shared_code.Goals as goal

pub returns-then-not-looks_at_code-clause-inside : goal.returns-then-not-looks_at_code-clause-inside
returns-then-not-looks_at_code-clause-inside c = first-inside c.args.part.now.codes c.least.result c.least.ensures.first
