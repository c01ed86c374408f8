use Rattle.std.proofs.Common.{◌≡◌, length}
use Rattle.std.specs.List.{list_all}
use Rattle.pam_released.specs.Lines.{is_blank_line, physical_lines}
use Rattle.pam_released.proofs.lines.are_blank_lines.Given as goal

abbrev pub invariant-loop-line : goal.invariant-loop-line
invariant-loop-line l = list_all is_blank_line (physical_lines l.bytes) ≡ list_all is_blank_line (physical_lines l.rest)

abbrev pub decreases-loop-line : goal.decreases-loop-line
decreases-loop-line l = length l.rest
