use Rattle.std.proofs.Common.{◌≡◌, filter, not}
use Rattle.std.specs.List.{range_with_len}
use Rattle.pam_compare.specs.Matching.{is_taken}
use Rattle.pam_changes.proofs.modules.removed.Given as goal

abbrev pub invariant-loop-index : goal.invariant-loop-index
invariant-loop-index l = l.numbers.items ≡ filter (λ number. not (is_taken l.matching number)) (range_with_len 1 l.index)
