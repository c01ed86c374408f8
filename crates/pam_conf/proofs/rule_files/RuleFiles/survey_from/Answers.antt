use Rattle.std.proofs.Common.{ap, ◌∙◌}
use Rattle.pam_conf.specs.ItemsOf.{items_of}
use Rattle.pam_conf.specs.inner.Progress.{count_of}
use Rattle.pam_conf.specs.inner.StartOf.{start_text}
use Rattle.pam_conf.specs.Survey.{good_at}
use Rattle.pam_conf.proofs.ResolutionLemmas.{stack-counted, stack-numbered, stack-shallow}
use Rattle.pam_conf.proofs.SurveyLemmas.{survey-done, survey-ended, with_stack}
use Rattle.pam_conf.proofs.rule_files.RuleFiles.survey_from.Goals as goal

pub of-requires-clause-counted : goal.of-requires-clause-counted
of-requires-clause-counted c =
    stack-counted c.self.inside.files.now (good_at c.self.inside.files.now) c.args.kind (start_text c.args.start) c.of-trail.result c.of-trail.ensures _
    (count_of c.in_ok-progress.progress) (count_of c.walk_file.new.progress) (ap (λ n. n.modules) c.in_ok-progress.ensures) (items_of c.new-items.result.items)
    (items_of c.walk_file.new.items.items) (ap items_of c.new-items.ensures.items) c.in-Ok.ensures.walked

pub of-requires-clause-shallow : goal.of-requires-clause-shallow
of-requires-clause-shallow c =
    stack-shallow c.self.inside.files.now (good_at c.self.inside.files.now) c.args.kind (start_text c.args.start) c.of-trail.result c.of-trail.ensures _
    (count_of c.in_ok-progress.progress) (count_of c.walk_file.new.progress) (ap (λ n. n.modules) c.in_ok-progress.ensures) (items_of c.new-items.result.items)
    (items_of c.walk_file.new.items.items) (ap items_of c.new-items.ensures.items) c.in-Ok.ensures.walked

pub of-requires-clause-numbered : goal.of-requires-clause-numbered
of-requires-clause-numbered c =
    stack-numbered c.self.inside.files.now (good_at c.self.inside.files.now) c.args.kind (start_text c.args.start) c.of-trail.result c.of-trail.ensures _
    (count_of c.in_ok-progress.progress) (count_of c.walk_file.new.progress) (ap (λ n. n.modules) c.in_ok-progress.ensures) (items_of c.new-items.result.items)
    (items_of c.walk_file.new.items.items) (ap items_of c.new-items.ensures.items) c.in-Ok.ensures.walked

pub returns-in-Ok : goal.returns-in-Ok
returns-in-Ok c =
    ap (with_stack (count_of c.walk_file.new.progress)) c.of.ensures
    ∙ survey-done c.self.inside.files.now c.args.self.now c.args.kind (start_text c.args.start) c.of-trail.result c.of-trail.ensures c.self.view_is
    (count_of c.in_ok-progress.progress) (count_of c.walk_file.new.progress) c.in_ok-progress.ensures (items_of c.new-items.result.items)
    (items_of c.walk_file.new.items.items) (ap items_of c.new-items.ensures.items) c.in-Ok.ensures.walked

pub returns-in-Err : goal.returns-in-Err
returns-in-Err c =
    survey-ended c.self.inside.files.now c.args.self.now c.args.kind (start_text c.args.start) c.of-trail.result c.of-trail.ensures c.self.view_is
    (count_of c.in_ok-progress.progress) (count_of c.walk_file.new.progress) c.in_ok-progress.ensures c.in-Err.error c.ended_survey.result
    c.in-Err.ensures.walked c.ended_survey.ensures.limit c.ended_survey.ensures.survey
