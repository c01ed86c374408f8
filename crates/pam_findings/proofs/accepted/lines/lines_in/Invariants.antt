-- the lines that are read, and those that are left
use Rattle.std.proofs.Common.{◌≡◌, ◌+◌, drop, length, map}
use Rattle.pam_findings.specs.accepted.Lines.{lines_from, physical_lines}
use Rattle.pam_findings.specs.accepted.inner.Lines.{before_lines}
use Rattle.pam_findings.specs.accepted.Views.{line_view}
use Rattle.pam_findings.proofs.accepted.lines.lines_in.Given as goal

abbrev pub invariant-loop-line : goal.invariant-loop-line
invariant-loop-line l = record {
  count : l.number ≡ length l.yielded;
  same : before_lines (map line_view l.lines.items) (lines_from (length l.yielded + 1) (drop (length l.yielded) (physical_lines l.fn.source.bytes.now)))
      ≡ lines_from 1 (physical_lines l.fn.source.bytes.now);
}
