use Rattle.std.proofs.Common.{◌∙◌, Bool, ap, if◌then◌else◌}
use Rattle.std.specs.List.{list_any}
use Rattle.pam_report.specs.Reply.{has_counting_rule}
use Rattle.pam_report.specs.declared.report.Status.TheVariants.{Refusal, Success}
use Rattle.pam_report.proofs.report.policy.PolicyReply.status.Goals as goal

pub returns : goal.returns
returns c =
    c.refusal_if.ensures
    ∙ ap (λ (counts : Bool). if counts then Refusal else Success)
    (c.has_counting_policy.ensures ∙ ap (list_any (has_counting_rule c.args.self.now.fail_on)) c.deref.ensures.value)
