use Rattle.std.proofs.Common.{◌≡◌, ◌≤◌, take}
use Rattle.std.specs.List.{count_by}
use Rattle.pam_changes.specs.Counts.{same_verdict, verdict_of}
use Rattle.pam_changes.proofs.changes.HostChanges.count.Given as goal

abbrev pub invariant-loop-stack : goal.invariant-loop-stack
invariant-loop-stack l = record {
  counted : l.count ≡ count_by (λ s. same_verdict (verdict_of l.self.pairs.items s.change) l.verdict) (take l.stack-index l.self.stacks.items);
  few : l.count ≤ l.stack-index;
}
