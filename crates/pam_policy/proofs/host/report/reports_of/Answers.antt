use Rattle.std.proofs.Common.{refl}
use Rattle.pam_policy.specs.host.Reports.{SaysOfClass}
use Rattle.pam_policy.specs.host.Stacks.{stacks_view}
use Rattle.pam_policy.specs.text.Sentences.{sentence_view}
use Rattle.pam_policy.proofs.HostProofs.Among.{classes-pushed, verdicts-pushed}
use Rattle.pam_policy.proofs.host.report.reports_of.Goals as goal

pub loop-class-preserved : goal.loop-class-preserved
loop-class-preserved c = record {
  classes = classes-pushed c.args.classes.now c.loop-class.class-index _ c.loop-class.reports.items _ _ c.in_ok-push.ensures.items c.loop-class-test.true
      refl c.loop-class.invariant.classes;
  verdicts = λ graphs.
      verdicts-pushed c.args.classes.now c.loop-class.class-index 0 c.loop-class.reports.items _ _ c.in_ok-push.ensures.items
      (SaysOfClass (stacks_view c.args.stacks.now) (sentence_view c.args.sentence.now)) (c.loop-class.invariant.verdicts graphs)
      (c.in_ok-verdict.ensures.verdict graphs);
}
