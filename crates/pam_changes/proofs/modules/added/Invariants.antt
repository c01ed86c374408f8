use Rattle.std.proofs.Common.{◌≡◌, filter}
use Rattle.std.specs.Prelude.{is_none}
use Rattle.std.specs.List.{range_with_len}
use Rattle.pam_compare.specs.Matching.{partner_of}
use Rattle.pam_changes.proofs.modules.added.Given as goal

abbrev pub invariant-loop-index : goal.invariant-loop-index
invariant-loop-index l = l.numbers.items ≡ filter (λ number. is_none (partner_of l.matching number)) (range_with_len 1 l.index)
