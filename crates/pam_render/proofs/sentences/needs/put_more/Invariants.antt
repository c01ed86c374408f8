-- the events so far are written
use Rattle.std.proofs.Common.{codes, take}
use Rattle.std.specs.List.{flat_map}
use Rattle.pam_codes.specs.Out.{TookAll}
use Rattle.pam_render.specs.sentences.Needs.{event_phrases}
use Rattle.pam_render.proofs.sentences.needs.put_more.Given as goal

abbrev pub invariant-loop-event : goal.invariant-loop-event
invariant-loop-event g l =
    TookAll g.W.Write.contents l.initial.out l.out
    (flat_map (λ event. flat_map g.F.Phrases.text (event_phrases (codes " or ") l.stack event)) (take l.event-index l.events))
