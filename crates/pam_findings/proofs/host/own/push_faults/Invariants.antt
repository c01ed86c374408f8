use Rattle.std.proofs.Common.{◌≡◌, ◌++◌, map, take}
use Rattle.pam_findings.specs.host.inner.Own.{fault_spot}
use Rattle.pam_findings.proofs.host.own.push_faults.Given as goal

abbrev pub invariant-loop-fault : goal.invariant-loop-fault
invariant-loop-fault l = l.spots.items ≡ l.initial.spots.items ++ map (fault_spot l.file) (take l.fault-index l.faults)
