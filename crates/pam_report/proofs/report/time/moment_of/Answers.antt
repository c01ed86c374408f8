use Rattle.pam_report.proofs.Civil.{written-is}
use Rattle.pam_report.proofs.report.time.moment_of.Goals as goal

pub returns-in-Civil : goal.returns-in-Civil
returns-in-Civil c = rw c.in-Civil.is (written-is _ _ _ c.as_bytes.ensures.value c.civil.ensures.accepts c.civil.ensures.value c.civil.ensures.refusal)
