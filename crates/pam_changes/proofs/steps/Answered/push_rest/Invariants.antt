use Rattle.std.proofs.Common.{◌≡◌, ◌≤◌, ◌++◌, drop, length, map}
use Rattle.pam_dispatch.specs.Runs.{answers_of}
use Rattle.pam_changes.specs.Steps.{as_old}
use Rattle.pam_changes.proofs.steps.Answered.push_rest.Given as goal

-- the modules so far, and those that are left
abbrev pub invariant-loop-index : goal.invariant-loop-index
invariant-loop-index l = record {
  asked : l.asked.items ++ map (as_old (answers_of l.self.old_codes.now)) (drop l.index l.alone)
      ≡ l.fn.asked.items ++ map (as_old (answers_of l.self.old_codes.now)) (drop l.first l.alone);
  within : l.index ≤ length l.alone;
}
