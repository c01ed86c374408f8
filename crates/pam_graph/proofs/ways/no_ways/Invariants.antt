use Rattle.std.proofs.Common.{◌≡◌, Some}
use Rattle.std.proofs.Math.ListN.{replicate}
use Rattle.pam_graph.proofs.ways.no_ways.Given as goal

abbrev pub invariant-loop-index : goal.invariant-loop-index
invariant-loop-index l = l.table.items ≡ replicate l.index (Some 0)
