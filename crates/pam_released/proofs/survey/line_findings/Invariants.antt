use Rattle.std.proofs.Common.{◌≡◌, ◌++◌, ◌+◌, ◌*◌, ◌≤◌, length}
use Rattle.pam_conf.specs.Words.{Between}
use Rattle.pam_released.specs.Findings.{line_findings}
use Rattle.pam_released.specs.Lines.{physical_lines}
use Rattle.pam_released.specs.Reader.{state_of}
use Rattle.pam_released.proofs.survey.line_findings.Given as goal

abbrev pub invariant-loop-line : goal.invariant-loop-line
invariant-loop-line l = record {
  found : l.found.items ++ line_findings l.number l.used (state_of l.reader) (physical_lines l.rest)
      ≡ line_findings 1 0 Between (physical_lines l.source.bytes.now);
  counted : l.number + length l.rest ≤ 1048577;
  fits : l.used + 2 * length l.rest ≤ 2097152;
}

abbrev pub decreases-loop-line : goal.decreases-loop-line
decreases-loop-line l = length l.rest
