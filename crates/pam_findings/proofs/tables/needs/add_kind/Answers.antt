use Rattle.std.proofs.Common.{◌∙◌, ap, map, sym}
use Rattle.std.proofs.lemmas.Result.{on_ok_weaker}
use Rattle.pam_conf.specs.Survey.{SurveyText}
use Rattle.pam_findings.specs.tables.inner.Passes.{need_view}
use Rattle.pam_findings.proofs.TablesProofs.Adding.{of-stack}
use Rattle.pam_findings.proofs.tables.needs.add_kind.Goals as goal

pub returns-in-Some : goal.returns-in-Some
returns-in-Some c =
    on_ok_weaker c.add_stack.result
    (of-stack c.args.rules.now c.args.service.now c.args.kind c.in-Some.stack (map need_view c.args.needs.now.items)
    (map need_view c.add_stack.new.needs.items) (ap (λ (s : SurveyText). s.items) (sym c.in_ok-survey.ensures) ∙ c.in-Some.is))
    c.add_stack.ensures
