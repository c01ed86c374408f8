use Rattle.pam_paths.proofs.Sharing.{class-all, class-more, class-none}
use Rattle.pam_paths.proofs.classes.class_at.Goals as goal

pub loop-part-init : goal.loop-part-init
loop-part-init c other = class-none c.args.asked.now c.args.outcome.now c.empty-class.result c.args.parts.now
    c.empty-class.ensures

pub loop-part-preserved : goal.loop-part-preserved
loop-part-preserved c other =
    class-more c.args.asked.now c.args.outcome.now c.args.parts.now c.loop-part.part-index c.part-item.result
    c.loop-part.class c.unseen_alike.result c.union-class.result c.loop-part-test.true c.part-item.is (c.loop-part.invariant other)
    (c.unseen_alike.ensures other)
    c.union-class.ensures

pub returns : goal.returns
returns c other =
    class-all c.args.asked.now c.args.outcome.now c.args.parts.now c.loop-part.part-index c.loop-part.class
    c.requires c.loop-part-test.false (c.loop-part.invariant other)
