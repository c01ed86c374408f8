use Rattle.std.proofs.Common.{◌∙◌, Bool, List, ap}
use Rattle.std.specs.List.{list_any}
use Rattle.pam_policy.specs.declared.host.report.ClassReport.{ClassReport}
use Rattle.pam_policy.specs.host.Told.{is_refuted, is_unjudged, standing_by}
use Rattle.pam_policy.proofs.host.report.RuleReport.standing.Goals as goal

pub returns : goal.returns
returns c =
    let refuted : List ClassReport → Bool = list_any (λ class. is_refuted class.verdict) in
    let unjudged : List ClassReport → Bool = list_any (λ class. is_unjudged class.verdict) in
    c.standing_by.ensures
    ∙ ap (λ (b : Bool). standing_by b c.some_unjudged-unjudged.result) (c.some_refuted-refuted.ensures ∙ ap refuted c.deref.ensures.value)
    ∙ ap (standing_by (refuted c.args.self.now.classes.items)) (c.some_unjudged-unjudged.ensures ∙ ap unjudged c.deref-2.ensures.value)
