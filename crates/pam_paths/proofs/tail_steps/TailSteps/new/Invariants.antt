-- the steps so far
use Rattle.std.proofs.Common.{◌≡◌, map}
use Rattle.pam_paths.specs.Steps.{step_seen}
use Rattle.pam_paths.specs.Tail.{tail_from}
use Rattle.pam_paths.proofs.tail_steps.TailSteps.new.Given as goal

abbrev pub invariant-loop-index : goal.invariant-loop-index
invariant-loop-index l = map step_seen l.steps.items ≡ tail_from 1 l.index
