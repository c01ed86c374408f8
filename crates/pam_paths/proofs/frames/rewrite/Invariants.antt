-- the first steps are those of the frames so far, and those after all frames stay
use Rattle.std.proofs.Common.{◌≡◌, ◌+◌, drop, length, map, take}
use Rattle.pam_paths.specs.Frames.{step_in}
use Rattle.pam_paths.specs.Steps.{step_seen}
use Rattle.pam_paths.proofs.frames.rewrite.Given as goal

abbrev pub invariant-loop-index : goal.invariant-loop-index
invariant-loop-index l = record {
  first : take (l.shared + l.index) (map step_seen l.steps.items) ≡ take (l.shared + l.index) (map step_in l.frames);
  last : drop (length l.frames) (map step_seen l.steps.items) ≡ drop (length l.frames) (map step_seen l.initial.steps.items);
  long : length l.steps.items ≡ length l.initial.steps.items;
}
