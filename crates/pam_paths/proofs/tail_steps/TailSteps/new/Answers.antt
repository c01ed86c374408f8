use Rattle.std.proofs.Common.{◌<◌, ap, arith, length, lit<, map}
use Rattle.std.proofs.lemmas.List.{length-map}
use Rattle.pam_paths.specs.Steps.{step_seen}
use Rattle.pam_paths.specs.Tail.{tail_from}
use Rattle.pam_paths.proofs.Tails.{length-tail_from, one-more}
use Rattle.pam_paths.proofs.tail_steps.TailSteps.new.Goals as goal

pub loop-index-init : goal.loop-index-init
unfolding tail_from
loop-index-init c = ap (map step_seen) c.new-steps.ensures

pub push-requires : goal.push-requires
push-requires c =
    let steps = c.loop-index.steps.items in
    let long = ap length c.loop-index.invariant in
    let room : length steps < 256 = omega (arith, long, length-tail_from 1 c.loop-index.index, length-map steps step_seen, c.loop-index-test.true) in
    (lit< tt, room)

pub loop-index-preserved : goal.loop-index-preserved
loop-index-preserved c =
    one-more c.loop-index.steps.items c.push.new.self.items _ c.loop-index.index c.loop-index.invariant c.push.ensures.items (omega arith) c.all.ensures
