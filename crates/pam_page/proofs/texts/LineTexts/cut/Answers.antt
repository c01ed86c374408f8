use Rattle.std.proofs.Common.{◌∙◌, ap, map, sym, take}
use Rattle.std.proofs.lemmas.List.{take-map}
use Rattle.pam_page.proofs.KeptTexts.{cut_none, cut_some}
use Rattle.pam_page.specs.KeptSteps.{step_of}
use Rattle.pam_page.proofs.texts.LineTexts.cut.Goals as goal

pub invariant_of-self : goal.invariant_of-self
invariant_of-self c =
    let inside = c.self.inside in
    cut_none inside.kept.items inside.cursor inside.steps c.args.count _ _ _ _ c.self.invariant
    c.truncate.ensures.items c.deref.ensures.value c.in_default.ensures.value c.truncate-in_default.ensures c.truncate-in_default-2.ensures

pub invariant_of-self-2 : goal.invariant_of-self-2
invariant_of-self-2 c =
    let inside = c.self.inside in
    cut_some inside.kept.items inside.cursor inside.steps c.args.count _ _ c.in-Some.last.now _ _ c.self.invariant
    c.truncate.ensures.items c.deref.ensures.value c.in-Some.ensures.value c.truncate-2.ensures c.truncate-3.ensures

pub returns : goal.returns
returns c =
    ap (map step_of) c.truncate.ensures.items ∙ sym (take-map step_of c.args.count c.self.inside.kept.items) ∙ ap (take c.args.count) c.self.view_is
