use Rattle.std.proofs.Common.{refl}
use Rattle.pam_report.proofs.report.needs.answer_known.Goals as goal

pub returns-in-Ok-clause-answer : goal.returns-in-Ok-clause-answer
returns-in-Ok-clause-answer c = record { same_service = refl; same_kind = refl; same_items = refl; says = c.in-Ok.ensures }
