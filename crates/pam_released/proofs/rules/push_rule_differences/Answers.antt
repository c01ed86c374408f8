use Rattle.pam_released.proofs.Pushing.{nothing_pushed, no_words}
use Rattle.pam_released.proofs.rules.push_rule_differences.Goals as goal

pub returns-in_default : goal.returns-in_default
returns-in_default c = nothing_pushed c.args.line.number c.args.found.now.items _ (no_words c.args.form c.args.line.bytes.now _ c.in_default.ensures)
