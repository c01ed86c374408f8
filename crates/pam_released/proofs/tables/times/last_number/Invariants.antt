use Rattle.std.proofs.Common.{◌≡◌, length}
use Rattle.pam_text.specs.Left.{text_left}
use Rattle.pam_text.specs.Text.{text_lines, text_of}
use Rattle.pam_released.specs.tables.Times.{last_number}
use Rattle.pam_released.proofs.tables.times.last_number.Given as goal

abbrev pub invariant-loop-joined : goal.invariant-loop-joined
invariant-loop-joined l = last_number l.number (text_lines (text_left l.text)) ≡ last_number 0 (text_lines (text_of 1 l.source.bytes.now))

abbrev pub decreases-loop-joined : goal.decreases-loop-joined
decreases-loop-joined l = length l.text.rest.now
