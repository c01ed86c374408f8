use Rattle.pam_facts.specs.Table.{facts_text}
use Rattle.pam_facts.specs.arguments.Texts.{arguments_text}
use Rattle.pam_text.proofs.Writing.{all-is, err-front, front-is, front-longer, writes-then}
use Rattle.pam_facts.proofs.table.write_facts.Goals as goal

pub returns-in_err-put : goal.returns-in_err-put
unfolding facts_text
returns-in_err-put g c = err-front _ c.from_residual.ensures.0 (front-longer arguments_text (front-is c.in_err-put.ensures c.table.ensures))

pub returns : goal.returns
unfolding facts_text
returns g c = writes-then _ arguments_text _ (all-is c.in_ok-put.ensures c.table.ensures) c.write_arguments.ensures
