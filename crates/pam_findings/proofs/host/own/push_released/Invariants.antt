use Rattle.std.proofs.Common.{◌≡◌, ◌++◌, map, take}
use Rattle.pam_findings.specs.host.inner.Own.{released_spot}
use Rattle.pam_findings.proofs.host.own.push_released.Given as goal

abbrev pub invariant-loop-finding : goal.invariant-loop-finding
invariant-loop-finding l = l.spots.items ≡ l.initial.spots.items ++ map (released_spot l.file) (take l.finding-index l.found)
