use Rattle.std.proofs.Common.{◌≡◌, ◌≤◌, length}
use Rattle.pam_tables.specs.times.Logic.{signs_of}
use Rattle.pam_tables.specs.times.inner.OnePass.{before, onward}
use Rattle.pam_tables.proofs.times.logic.skip_blanks.Given as goal

abbrev pub invariant-loop-first : goal.invariant-loop-first
invariant-loop-first l = record {
  before : signs_of (before l.rest) ≡ signs_of (before l.fn.bytes);
  onward : onward l.rest ≡ onward l.fn.bytes;
  signs : signs_of l.rest ≡ signs_of l.fn.bytes;
  bound : length l.rest ≤ length l.fn.bytes;
}

abbrev pub decreases-loop-first : goal.decreases-loop-first
decreases-loop-first l = length l.rest
