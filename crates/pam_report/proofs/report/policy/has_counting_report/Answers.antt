use Rattle.std.proofs.Common.{◌∙◌, ◌||◌, List, ap}
use Rattle.std.specs.List.{list_any}
use Rattle.pam_policy.specs.declared.host.report.ClassReport.{ClassReport}
use Rattle.pam_policy.specs.declared.names.word.Misnamed.{Misnamed}
use Rattle.pam_policy.specs.host.Findings.{not_known, not_upheld, of_argument, of_name}
use Rattle.pam_policy.specs.names.Words.{misnamed_view}
use Rattle.pam_report.proofs.CountingFindings.{of-parts}
use Rattle.pam_report.specs.inner.Policy.{counts_if_found}
use Rattle.pam_report.proofs.report.policy.has_counting_report.Goals as goal

pub returns : goal.returns
returns c =
    let fail_on = c.args.fail_on in
    c.is_one.ensures
    ∙ of-parts fail_on c.args.report.now _ _ _
    (c.has_counting_class-of_classes.ensures
    ∙ ap (λ (those : List ClassReport). list_any (λ one. counts_if_found fail_on (not_upheld one) || counts_if_found fail_on (not_known one)) those)
    c.as_slice.ensures.value)
    (c.has_counting_word-of_words.ensures
    ∙ ap (λ (those : List Misnamed). list_any (λ one. counts_if_found fail_on (of_name (misnamed_view one)) || counts_if_found fail_on (of_argument (misnamed_view one))) those)
    c.as_slice-2.ensures.value)
    c.idle_counts-of_idle.ensures
