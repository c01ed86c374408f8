use Rattle.std.proofs.Common.{◌∙◌, arith}
use Rattle.pam_text.proofs.Runs.{joint_line, joint_rest}
use Rattle.pam_text.proofs.text.Text.take_joints.Goals as goal

pub loop-after-preserved : goal.loop-after-preserved
loop-after-preserved c = record {
  line = joint_line c.loop-after.self.line _ _ c.in-Some.ensures.value _ _ c.in_ok-push.ensures.items ∙ c.loop-after.invariant.line;
  rest = joint_rest c.loop-after.self.line _ _ c.in-Some.ensures.value ∙ c.loop-after.invariant.rest;
  shorter = omega (arith, c.loop-after.invariant.shorter, c.in-Some.ensures.bound);
}
