use Rattle.std.proofs.Common.{refl}
use Rattle.std.specs.Prelude.{is_some}
use Rattle.pam_report.specs.Memory.{of_paths, paths_tables}
use Rattle.pam_report.specs.Outcomes.{IsOutcomesOf}
use Rattle.pam_report.proofs.KnownStacks.{answer-found, fault-found}
use Rattle.pam_report.proofs.report.outcomes.answer_service.Goals as goal

pub returns-in-Err-clause-answer : goal.returns-in-Err-clause-answer
returns-in-Err-clause-answer c =
    fault-found (IsOutcomesOf c.args.request.now.service.now c.args.request.now.kind) _ c.in-Err.fault c.in-Err.ensures.stack

pub returns-in-Ok-clause-answer : goal.returns-in-Ok-clause-answer
returns-in-Ok-clause-answer c =
    answer-found (IsOutcomesOf c.args.request.now.service.now c.args.request.now.kind) _ _ _ _ c.in-Ok.ensures.stack c.answer_known.ensures.answer

pub returns-in-Ok-clause-wants : goal.returns-in-Ok-clause-wants
returns-in-Ok-clause-wants c = c.answer_known.ensures.wants (of_paths (paths_tables (is_some c.args.sources.now.moment) c.args.sources.now.inputs.now)) refl
