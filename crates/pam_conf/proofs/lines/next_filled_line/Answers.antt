use Rattle.pam_conf.proofs.LineSteps.{filled_result}
use Rattle.pam_conf.proofs.lines.next_filled_line.Goals as goal

pub returns-clause-rules : goal.returns-clause-rules
returns-clause-rules c = filled_result c.next_line.result _ _ _ _ c.skip_blanks.ensures.lines c.next_line.ensures.line c.next_line.ensures.rest
