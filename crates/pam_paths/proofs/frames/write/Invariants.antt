-- the first steps, and then those of the frames so far
use Rattle.std.proofs.Common.{◌≡◌, ◌+◌, map, take}
use Rattle.pam_paths.specs.Frames.{step_in}
use Rattle.pam_paths.specs.Steps.{step_seen}
use Rattle.pam_paths.proofs.frames.write.Given as goal

abbrev pub invariant-loop-frame : goal.invariant-loop-frame
invariant-loop-frame l = map step_seen l.steps.items ≡ map step_in (take (l.shared + l.frame-index) l.frames)
