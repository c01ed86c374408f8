use Rattle.pam_report.proofs.KnownStacks.{finds-err, finds-ok}
use Rattle.pam_report.proofs.report.known_stack.known_by.Goals as goal

pub returns-in-Ok-clause-known : goal.returns-in-Ok-clause-known
returns-in-Ok-clause-known c = finds-ok c.args.stack.now _ c.in-Ok.known c.in-Ok.ensures.known

pub returns-in-Err-clause-known : goal.returns-in-Err-clause-known
returns-in-Err-clause-known c = finds-err c.args.stack.now _ c.in-Err.error c.known_fault.result c.in-Err.ensures.known c.known_fault.ensures

pub returns-in-Err-clause-read : goal.returns-in-Err-clause-read
returns-in-Err-clause-read c = (c.in-Err.error, c.known_fault.ensures, c.in-Err.ensures.read)
