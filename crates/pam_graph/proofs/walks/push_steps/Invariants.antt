use Rattle.std.proofs.Common.{◌≡◌, ◌≤◌, length, map, take}
use Rattle.pam_graph.specs.Frames.{step_in}
use Rattle.pam_graph.proofs.walks.push_steps.Given as goal

abbrev pub invariant-loop-index : goal.invariant-loop-index
invariant-loop-index l = record {
  same : l.path.steps ≡ take l.index (map step_in l.frames);
  within : l.index ≤ length l.frames;
}
