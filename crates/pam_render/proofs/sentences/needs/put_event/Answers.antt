use Rattle.std.proofs.Common.{refl}
use Rattle.std.specs.List.{flat_map}
use Rattle.pam_codes.proofs.Writing.{err-front, front-is, front-longer, writes-is, writes-then}
use Rattle.pam_policy.specs.needs.Events.{event_argument}
use Rattle.pam_render.proofs.SentencesProofs.NeedsSentences.{event-is}
use Rattle.pam_render.specs.sentences.Needs.{argument_phrases}
use Rattle.pam_render.proofs.sentences.needs.put_event.Goals as goal

pub returns-in_err-put_phrases : goal.returns-in_err-put_phrases
returns-in_err-put_phrases g c =
    let items = c.args.stack.now in
    let argument = event_argument items c.args.event in
    err-front _ c.from_residual.ensures.0
    (front-is (front-longer (flat_map g.F.Phrases.text (argument_phrases argument)) c.in_err-put_phrases.ensures)
    (event-is g.F.Phrases.text c.args.before.now items c.args.event _ argument c.name.ensures refl))

pub returns : goal.returns
returns g c =
    writes-is _ _ _ _ _ _ (writes-then _ _ _ c.in_ok-put_phrases.ensures c.put_argument.ensures)
    (event-is g.F.Phrases.text c.args.before.now c.args.stack.now c.args.event _ _ c.name.ensures c.argument.ensures)
