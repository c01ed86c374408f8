use Rattle.std.proofs.Common.{◌∙◌, ◌+◌, ap, codes, drop}
use Rattle.std.proofs.lemmas.List.{take_all}
use Rattle.std.specs.List.{flat_map}
use Rattle.pam_codes.proofs.Writing.{all-is, err-front, front-is, front-longer, front-then}
use Rattle.pam_policy.specs.declared.search.run.Step.{Step}
use Rattle.pam_text.proofs.FlatTexts.{flat_map-at}
use Rattle.pam_render.specs.sentences.Policy.{step_phrases}
use Rattle.pam_render.proofs.SentencesProofs.PolicySentences.{nexts-are}
use Rattle.pam_render.proofs.sentences.policy.run.put_next_steps.Goals as goal

pub returns-in_err-put_step : goal.returns-in_err-put_step
returns-in_err-put_step g c =
    let steps = c.args.steps.now in
    let text = λ (step : Step). flat_map g.F.Phrases.text (step_phrases (codes ", ") c.args.stack.now step) in
    let index = c.loop-step.step-index in
    let failed = front-is c.in_err-put_step.ensures (ap text c.step-item.is) in
    err-front _ c.from_residual.ensures.0
    (front-is
    (front-longer (flat_map text (drop (index + 1) steps)) (front-then c.loop-step.invariant failed))
    (flat_map-at text steps index _ c.loop-step-test.true ∙ nexts-are g.F.Phrases.text c.args.stack.now steps))

pub returns : goal.returns
returns g c =
    let steps = c.args.steps.now in
    let text = λ (step : Step). flat_map g.F.Phrases.text (step_phrases (codes ", ") c.args.stack.now step) in
    all-is c.loop-step.invariant
    (ap (flat_map text) (take_all c.loop-step.step-index steps c.loop-step-test.false) ∙ nexts-are g.F.Phrases.text c.args.stack.now steps)
