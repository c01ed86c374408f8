use Rattle.std.proofs.Common.{◌∙◌, ap, arith}
use Rattle.std.specs.List.{flat_map, range_with_len}
use Rattle.pam_policy.specs.needs.Events.{events_at, events_of}
use Rattle.pam_policy.proofs.NeedsProofs.Events.{events-next}
use Rattle.pam_policy.proofs.needs.events.events_of.Goals as goal

pub loop-index-preserved : goal.loop-index-preserved
loop-index-preserved c =
    events-next (events_at c.args.stack.now) c.loop-index.index _ _ c.loop-index.invariant c.in_ok-add_events.ensures

pub returns : goal.returns
unfolding events_of
returns c =
    c.loop-index.invariant
    ∙ ap (λ n. flat_map (events_at c.args.stack.now) (range_with_len 1 n))
    (omega (arith, c.loop-index-test.false, c.loop-index.auto.index-end, c.modules-index-end.ensures.count))
