use Rattle.std.proofs.Common.{◌≡◌, ◌++◌, map, take}
use Rattle.pam_findings.specs.host.inner.Looked.{walk_spot}
use Rattle.pam_findings.proofs.host.walk.push_walk.Given as goal

abbrev pub invariant-loop-fault : goal.invariant-loop-fault
invariant-loop-fault l = l.spots.items ≡ l.initial.spots.items ++ map walk_spot (take l.fault-index l.faults)
