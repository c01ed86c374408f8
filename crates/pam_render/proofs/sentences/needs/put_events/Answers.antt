use Rattle.std.specs.List.{flat_map}
use Rattle.pam_codes.proofs.Writing.{err-front, front-is, front-longer, writes-is, writes-then}
use Rattle.pam_render.specs.sentences.Needs.{more_phrases}
use Rattle.pam_render.proofs.SentencesProofs.NeedsSentences.{events-are}
use Rattle.pam_render.proofs.sentences.needs.put_events.Goals as goal

pub returns-in_err-put_event : goal.returns-in_err-put_event
returns-in_err-put_event g c =
    let items = c.args.stack.now in
    err-front _ c.from_residual.ensures.0
    (front-is
    (front-longer (flat_map g.F.Phrases.text (more_phrases items c.in-Some.others.now)) c.in_err-put_event.ensures)
    (events-are g.F.Phrases.text c.args.before.now items _ _ _ c.in-Some.ensures.cases.0))

pub returns : goal.returns
returns g c =
    writes-is _ _ _ _ _ _ (writes-then _ _ _ c.in_ok-put_event.ensures c.put_more.ensures)
    (events-are g.F.Phrases.text c.args.before.now c.args.stack.now _ _ _ c.in-Some.ensures.cases.0)
