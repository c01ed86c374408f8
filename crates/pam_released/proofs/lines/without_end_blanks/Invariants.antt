use Rattle.std.proofs.Common.{◌≡◌, length}
use Rattle.pam_released.specs.Lines.{without_end_blanks}
use Rattle.pam_released.proofs.lines.without_end_blanks.Given as goal

abbrev pub invariant-loop-last : goal.invariant-loop-last
invariant-loop-last l = without_end_blanks l.line ≡ without_end_blanks l.text

abbrev pub decreases-loop-last : goal.decreases-loop-last
decreases-loop-last l = length l.text
