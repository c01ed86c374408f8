use Rattle.std.proofs.Common.{◌≡◌, ◌++◌, drop}
use Rattle.pam_released.specs.Findings.{merged}
use Rattle.pam_released.proofs.survey.merged.Given as goal

abbrev pub invariant-loop-finding : goal.invariant-loop-finding
invariant-loop-finding l = l.all.items ++ merged (drop l.finding-index l.findings) l.rest ≡ merged l.findings l.others
