use Rattle.std.proofs.Common.{◌∙◌, ◌+◌, ap, codes, drop}
use Rattle.std.proofs.lemmas.List.{take_all}
use Rattle.std.specs.List.{flat_map}
use Rattle.pam_codes.proofs.Writing.{all-is, err-front, front-is, front-longer, front-then}
use Rattle.pam_policy.specs.declared.needs.event.StackEvent.{StackEvent}
use Rattle.pam_text.proofs.FlatTexts.{flat_map-at}
use Rattle.pam_render.specs.sentences.Needs.{event_phrases}
use Rattle.pam_render.proofs.SentencesProofs.NeedsSentences.{more-are}
use Rattle.pam_render.proofs.sentences.needs.put_more.Goals as goal

pub returns-in_err-put_event : goal.returns-in_err-put_event
returns-in_err-put_event g c =
    let events = c.args.events.now in
    let text = λ (event : StackEvent). flat_map g.F.Phrases.text (event_phrases (codes " or ") c.args.stack.now event) in
    let index = c.loop-event.event-index in
    err-front _ c.from_residual.ensures.0
    (front-is
    (front-longer (flat_map text (drop (index + 1) events)) (front-then c.loop-event.invariant c.in_err-put_event.ensures))
    (flat_map-at text events index _ c.loop-event-test.true ∙ more-are g.F.Phrases.text c.args.stack.now events))

pub returns : goal.returns
returns g c =
    let events = c.args.events.now in
    let text = λ (event : StackEvent). flat_map g.F.Phrases.text (event_phrases (codes " or ") c.args.stack.now event) in
    all-is c.loop-event.invariant
    (ap (flat_map text) (take_all c.loop-event.event-index events c.loop-event-test.false) ∙ more-are g.F.Phrases.text c.args.stack.now events)
