-- no file before this position has the name
use Rattle.std.proofs.Common.{◌≤◌}
use Rattle.pam_report.proofs.ReleasedRules.{files_before}
use Rattle.pam_report.proofs.report.released.position.Given as goal

abbrev pub invariant-loop-position : goal.invariant-loop-position
invariant-loop-position l = l.position ≤ files_before l.name l.files.entries
