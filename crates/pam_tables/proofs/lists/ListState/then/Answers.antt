use Rattle.pam_tables.proofs.ListSteps.{decided, list_match, list_miss, list_except}
use Rattle.pam_tables.proofs.lists.ListState.then.Goals as goal

pub returns-then-self : goal.returns-then-self
returns-then-self c = decided c.args.self c.args.mark c.if-self.true

pub returns-in-Match : goal.returns-in-Match
returns-in-Match c = list_match c.args.self c.args.mark c.if-self.false c.in-Match.is

pub returns-in-Miss : goal.returns-in-Miss
returns-in-Miss c = list_miss c.args.self c.args.mark c.if-self.false c.in-Miss.is

pub returns-in-Except : goal.returns-in-Except
returns-in-Except c = list_except c.args.self c.args.mark c.if-self.false c.in-Except.is
