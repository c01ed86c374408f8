use Rattle.std.proofs.Common.{◌≡◌, filter_map}
use Rattle.std.specs.List.{range_with_len}
use Rattle.pam_changes.specs.Modules.{pair_of}
use Rattle.pam_changes.proofs.modules.matched_pairs.Given as goal

abbrev pub invariant-loop-index : goal.invariant-loop-index
invariant-loop-index l = l.pairs.items ≡ filter_map (pair_of l.matching) (range_with_len 1 l.index)
