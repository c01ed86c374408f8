use Rattle.std.proofs.Common.{◌≡◌, ◌≤◌, ◌++◌, drop, length}
use Rattle.pam_dispatch.specs.Runs.{answers_of}
use Rattle.pam_changes.specs.Steps.{merged}
use Rattle.pam_changes.proofs.steps.Answered.merged.Given as goal

-- the modules so far, and those of both stacks that are left
abbrev pub invariant-loop-number : goal.invariant-loop-number
invariant-loop-number l = record {
  asked : l.asked.items
      ++ merged l.self.matching.now (answers_of l.self.old_codes.now) (answers_of l.self.new_codes.now)
      (drop l.first l.alone) (drop l.number-index l.shown)
      ≡ merged l.self.matching.now (answers_of l.self.old_codes.now) (answers_of l.self.new_codes.now) l.alone l.shown;
  within : l.first ≤ length l.alone;
}
