use Rattle.std.proofs.Common.{◌≡◌, ◌≤◌, drop, length}
use Rattle.pam_findings.specs.host.inner.Alone.{AreKnown}
use Rattle.pam_findings.specs.host.inner.SoFar.{SoFar, host_with}
use Rattle.pam_findings.proofs.host.stacks.Checker.add_all.Given as goal

-- the services so far are taken, and the others are left
abbrev pub invariant-loop-name : goal.invariant-loop-name
invariant-loop-name l = record {
  taken : SoFar (host_with l.self.files.now l.self.vendor_start l.services l.self.modules.now) (length l.ways_in.items) l.found l.ways_in.items;
  within : length l.ways_in.items ≤ length l.services;
  known : AreKnown l.self.rules.now l.self.modules.now l.found.alone.items;
  left : drop (length l.ways_in.items) l.services ≡ l.name-iterator;
}
