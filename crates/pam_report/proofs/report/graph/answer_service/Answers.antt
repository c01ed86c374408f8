use Rattle.std.proofs.Common.{refl}
use Rattle.std.specs.Prelude.{is_some}
use Rattle.pam_report.specs.Memory.{of_paths, paths_tables}
use Rattle.pam_report.specs.Graph.{IsGraphReplyOf}
use Rattle.pam_report.proofs.KnownStacks.{answer-found, fault-found}
use Rattle.pam_report.proofs.report.graph.answer_service.Goals as goal

pub returns-in-Err-clause-answer : goal.returns-in-Err-clause-answer
returns-in-Err-clause-answer c =
    let asked = c.args.request.now.stack in
    fault-found (IsGraphReplyOf c.args.request.now.format asked.service.now asked.kind) _ c.in-Err.fault c.in-Err.ensures.stack

pub returns-in-Ok-clause-answer : goal.returns-in-Ok-clause-answer
returns-in-Ok-clause-answer c =
    let asked = c.args.request.now.stack in
    answer-found (IsGraphReplyOf c.args.request.now.format asked.service.now asked.kind) _ _ _ _ c.in-Ok.ensures.stack c.answer_known.ensures.answer

pub returns-in-Ok-clause-wants : goal.returns-in-Ok-clause-wants
returns-in-Ok-clause-wants c = c.answer_known.ensures.wants (of_paths (paths_tables (is_some c.args.sources.now.moment) c.args.sources.now.inputs.now)) refl
