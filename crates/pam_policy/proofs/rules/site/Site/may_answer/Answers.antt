use Rattle.std.proofs.Common.{◌+◌, arith}
use Rattle.pam_policy.specs.host.Stacks.{known_site}
use Rattle.pam_policy.specs.text.Events.{event_view}
use Rattle.pam_policy.proofs.NeedsProofs.Deciding.{answers-at, meets-as, none-next}
use Rattle.pam_policy.proofs.rules.site.Site.may_answer.Goals as goal

pub returns-then-meets : goal.returns-then-meets
returns-then-meets c =
    let known = known_site c.args.self.now in
    let event = event_view c.args.event.now in
    let number = c.loop-index.index + 1 in
    answers-at known event c.loop-index.index (omega (arith, c.loop-index-test.true, c.modules-index-end.ensures.count))
    ((meets-as known event number c.event_answers-codes.result c.allowed.result c.meets.result c.event_answers-codes.ensures c.allowed.ensures
    c.meets.ensures).0 c.if-meets.true)

pub loop-index-preserved : goal.loop-index-preserved
loop-index-preserved c =
    let known = known_site c.args.self.now in
    let event = event_view c.args.event.now in
    let number = c.loop-index.index + 1 in
    none-next known event c.loop-index.index c.meets.result c.if-meets.false
    (meets-as known event number c.event_answers-codes.result c.allowed.result c.meets.result c.event_answers-codes.ensures c.allowed.ensures
    c.meets.ensures) c.loop-index.invariant
