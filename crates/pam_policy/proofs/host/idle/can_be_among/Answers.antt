use Rattle.pam_policy.specs.host.Stacks.{stacks_view}
use Rattle.pam_policy.specs.text.Sentences.{sentence_view}
use Rattle.pam_policy.proofs.HostProofs.Among.{among-here, among-later, among-none}
use Rattle.pam_policy.proofs.host.idle.can_be_among.Goals as goal

pub returns-then-can-clause-can : goal.returns-then-can-clause-can
returns-then-can-clause-can c graphs =
    among-here c.args.way (stacks_view c.args.stacks.now) (sentence_view c.args.sentence.now) c.args.classes.now c.loop-class.class-index _ _
    c.loop-class-test.true c.if-can.true (c.in_ok-can.ensures.can graphs)

pub loop-class-preserved : goal.loop-class-preserved
loop-class-preserved c graphs among =
    among-later c.args.way (stacks_view c.args.stacks.now) (sentence_view c.args.sentence.now) c.args.classes.now c.loop-class.class-index _ _
    c.loop-class-test.true c.if-can.false (c.in_ok-can.ensures.can graphs) (c.loop-class.invariant graphs among)

pub returns-clause-can : goal.returns-clause-can
returns-clause-can c graphs =
    among-none c.args.way (stacks_view c.args.stacks.now) (sentence_view c.args.sentence.now) c.args.classes.now c.loop-class.class-index
    c.loop-class-test.false (c.loop-class.invariant graphs)
