use Rattle.std.proofs.Common.{◌≡◌, ◌≤◌, ◌++◌, drop, length, map}
use Rattle.pam_dispatch.specs.Runs.{answers_of}
use Rattle.pam_changes.specs.Steps.{as_old, before, from}
use Rattle.pam_changes.proofs.steps.Answered.push_before.Given as goal

-- the modules so far come before the limit, and the others are left
abbrev pub invariant-loop-index : goal.invariant-loop-index
invariant-loop-index l = record {
  asked : l.asked.items ++ map (as_old (answers_of l.self.old_codes.now)) (before l.limit (drop l.index l.alone))
      ≡ l.fn.asked.items ++ map (as_old (answers_of l.self.old_codes.now)) (before l.limit (drop l.first l.alone));
  left : from l.limit (drop l.index l.alone) ≡ from l.limit (drop l.first l.alone);
  within : l.index ≤ length l.alone;
}
