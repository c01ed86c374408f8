use Rattle.std.proofs.Common.{◌≡◌, Some, drop}
use Rattle.std.specs.Prelude.{fold}
use Rattle.pam_graph.specs.inner.Tallies.{plus}
use Rattle.pam_graph.proofs.tally.sum_of.Given as goal

abbrev pub invariant-loop-number : goal.invariant-loop-number
invariant-loop-number l = fold plus l.sum (drop l.number-index l.numbers) ≡ fold plus (Some 0) l.numbers
