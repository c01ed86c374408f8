-- the modules so far that are not marked
use Rattle.std.proofs.Common.{◌≡◌, filter, not}
use Rattle.std.specs.List.{range_with_len}
use Rattle.pam_findings.specs.stack.inner.Marks.{mark_of}
use Rattle.pam_findings.proofs.stack.asked.unmarked.Given as goal

abbrev pub invariant-loop-index : goal.invariant-loop-index
invariant-loop-index l = l.numbers.items ≡ filter (λ number. not (mark_of l.marks number)) (range_with_len 1 l.index)
