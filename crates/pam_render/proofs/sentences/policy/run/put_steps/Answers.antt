use Rattle.std.specs.List.{flat_map}
use Rattle.pam_codes.proofs.Writing.{err-front, front-is, front-longer, writes-is, writes-then}
use Rattle.pam_render.specs.sentences.Policy.{next_phrases}
use Rattle.pam_render.proofs.SentencesProofs.PolicySentences.{steps-are}
use Rattle.pam_render.proofs.sentences.policy.run.put_steps.Goals as goal

pub returns-in_err-put_step : goal.returns-in_err-put_step
returns-in_err-put_step g c =
    err-front _ c.from_residual.ensures.0
    (front-is
    (front-longer (flat_map g.F.Phrases.text (next_phrases c.args.stack.now c.in-Some.others.now)) c.in_err-put_step.ensures)
    (steps-are g.F.Phrases.text c.args.stack.now _ _ _ c.in-Some.ensures.cases.0))

pub returns : goal.returns
returns g c =
    writes-is _ _ _ _ _ _ (writes-then _ _ _ c.in_ok-put_step.ensures c.put_next_steps.ensures)
    (steps-are g.F.Phrases.text c.args.stack.now _ _ _ c.in-Some.ensures.cases.0)
