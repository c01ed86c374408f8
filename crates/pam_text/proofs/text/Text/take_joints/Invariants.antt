use Rattle.std.proofs.Common.{◌≡◌, ◌++◌, ◌≤◌, length}
use Rattle.pam_text.specs.Text.{first_line, after_line}
use Rattle.pam_text.specs.Left.{text_left}
use Rattle.pam_text.proofs.text.Text.take_joints.Given as goal

abbrev pub invariant-loop-after : goal.invariant-loop-after
invariant-loop-after l = record {
  line : l.joined.items ++ first_line (text_left l.self) ≡ l.fn.joined.items ++ first_line (text_left l.fn.self);
  rest : after_line (text_left l.self) ≡ after_line (text_left l.fn.self);
  shorter : length l.self.rest.now ≤ length l.fn.self.rest.now;
}

abbrev pub decreases-loop-after : goal.decreases-loop-after
decreases-loop-after l = length l.self.rest.now
