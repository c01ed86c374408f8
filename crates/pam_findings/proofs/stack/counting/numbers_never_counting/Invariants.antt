-- the modules so far that are asked and may answer success, which does not count
use Rattle.std.proofs.Common.{◌≡◌, filter}
use Rattle.std.specs.List.{range_with_len}
use Rattle.pam_paths.specs.Known.{may_answer}
use Rattle.pam_findings.specs.stack.inner.Counting.{never_counts}
use Rattle.pam_findings.proofs.stack.counting.numbers_never_counting.Given as goal

abbrev pub invariant-loop-index : goal.invariant-loop-index
invariant-loop-index l = l.numbers.items ≡ filter (never_counts (may_answer l.known) l.asked l.counting) (range_with_len 1 l.index)
