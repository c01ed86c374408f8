use Rattle.std.proofs.Common.{◌∙◌}
use Rattle.pam_facts.proofs.ThereSteps.{any_turned}
use Rattle.pam_facts.proofs.answers.has_path.Goals as goal

pub returns : goal.returns
returns c = c.has.ensures ∙ any_turned c.args.path.now c.args.paths.now
