use Rattle.std.proofs.Common.{refl}
use Rattle.pam_report.proofs.CandidateSteps.{answered, refused, wanting}
use Rattle.pam_report.proofs.report.check.checked_candidates.Goals as goal

pub returns-in-Ok-clause-answer : goal.returns-in-Ok-clause-answer
returns-in-Ok-clause-answer c = answered _ _ _ c.in-Ok.ensures c.checked_if_read.ensures.answer

pub returns-in-Err-clause-answer : goal.returns-in-Err-clause-answer
returns-in-Err-clause-answer c = refused _ _ c.in-Err.fault c.in-Err.ensures

pub returns-in-Err-clause-wants : goal.returns-in-Err-clause-wants
returns-in-Err-clause-wants c = wanting _ _ c.in-Err.fault refl c.in-Err.ensures
