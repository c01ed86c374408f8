use Rattle.std.proofs.Common.{◌≡◌, ◌+◌, ◌≤◌, length}
use Rattle.pam_text.specs.Text.{text_of, filled_lines, text_lines}
use Rattle.pam_text.specs.Left.{text_left}
use Rattle.pam_text.proofs.text.Text.skip_blanks.Given as goal

abbrev pub invariant-loop-first : goal.invariant-loop-first
invariant-loop-first l = record {
  lines : filled_lines (text_lines (text_of l.line l.rest)) ≡ filled_lines (text_lines (text_left l.fn.self));
  counted : l.line + length l.rest ≤ l.fn.self.line + length l.fn.self.rest.now;
  shorter : length l.rest ≤ length l.fn.self.rest.now;
}

abbrev pub decreases-loop-first : goal.decreases-loop-first
decreases-loop-first l = length l.rest
