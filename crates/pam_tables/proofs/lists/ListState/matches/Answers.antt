use Rattle.pam_tables.proofs.ListSteps.{list_ends, list_was_decided}
use Rattle.pam_tables.proofs.lists.ListState.matches.Goals as goal

pub returns-then-self : goal.returns-then-self
returns-then-self c = list_was_decided c.args.self c.if-self.true

pub returns-else-self : goal.returns-else-self
returns-else-self c = list_ends c.args.self c.if-self.false
