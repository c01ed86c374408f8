use Rattle.std.proofs.Common.{◌∙◌, ◌∷◌, ◌++◌, ◌≤◌, [], Bool, ap, arith, cond, length, map, take}
use Rattle.std.proofs.lemmas.List.{length-map, length-take}
use Rattle.pam_page.proofs.KeptTexts.{added_more}
use Rattle.pam_page.specs.KeptSteps.{step_of}
use Rattle.pam_paths.specs.Steps.{step_seen}
use Rattle.pam_page.proofs.texts.LineTexts.replace_steps.Goals as goal

pub loop-step-preserved : goal.loop-step-preserved
loop-step-preserved c =
    let l = c.loop-step in
    let step = c.step-item.result in
    let kept = c.self.inside.kept.items in
    let steps = c.args.steps.now in
    let viewed = ap length c.self.view_is in
    let first = ap length (c.cut.ensures ∙ c.requires) in
    let taken = length-take (length (take c.args.shared c.args.self.now)) (map step_seen steps) in
    let within : c.len-count.result ≤ length steps =
    omega (arith, c.len-count.ensures, viewed, first, taken, length-map kept step_of, length-map steps step_seen) in
    c.append.ensures ∙ ap (λ (fits : Bool). cond fits (l.self ++ step_seen step ∷ []) []) c.if-not-append.false
    ∙ added_more c.args.steps.now c.len-count.result l.step-index step l.self
    within c.loop-step-test.true c.step-item.is l.invariant
