use Rattle.std.proofs.Common.{◌≡◌, ◌++◌, length}
use Rattle.pam_text.specs.Left.{text_left}
use Rattle.pam_text.specs.Text.{text_lines, text_of}
use Rattle.pam_released.specs.tables.Findings.{found_in}
use Rattle.pam_released.specs.tables.Times.{time_tests}
use Rattle.pam_released.proofs.tables.times.time_findings.Given as goal

abbrev pub invariant-loop-found : goal.invariant-loop-found
invariant-loop-found l = l.found.items ++ found_in (time_tests l.unfinished) (text_lines (text_left l.text))
    ≡ found_in (time_tests l.unfinished) (text_lines (text_of 1 l.source.bytes.now))

abbrev pub decreases-loop-found : goal.decreases-loop-found
decreases-loop-found l = length l.text.rest.now
