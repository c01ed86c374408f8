use Rattle.std.proofs.Common.{◌≡◌, ◌++◌, length}
use Rattle.pam_text.specs.Left.{text_left}
use Rattle.pam_text.specs.Text.{text_lines, text_of}
use Rattle.pam_tables.specs.times.Faults.{line_faults}
use Rattle.pam_tables.proofs.times.faults.faults_of_lines.Given as goal

abbrev pub invariant-loop-faults : goal.invariant-loop-faults
invariant-loop-faults l = l.faults.items ++ line_faults (text_lines (text_left l.text)) ≡ line_faults (text_lines (text_of 1 l.source.bytes.now))

abbrev pub decreases-loop-faults : goal.decreases-loop-faults
decreases-loop-faults l = length l.text.rest.now
