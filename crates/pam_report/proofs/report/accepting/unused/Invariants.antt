-- the lines so far that have none of the keys
use Rattle.std.proofs.Common.{◌≡◌, map, take}
use Rattle.pam_findings.specs.accepted.Views.{line_view}
use Rattle.pam_report.specs.Accepting.{lines_without}
use Rattle.pam_report.proofs.report.accepting.unused.Given as goal

abbrev pub invariant-loop-line : goal.invariant-loop-line
invariant-loop-line l = l.unused.items ≡ lines_without l.keys (map line_view (take l.line-index l.line-items))
