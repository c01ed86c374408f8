-- what is known so far, and then of the nodes that are left, is what is known of all nodes
use Rattle.std.proofs.Common.{◌≡◌, [], drop}
use Rattle.pam_graph.specs.Walks.{table}
use Rattle.pam_findings.specs.stack.inner.Counting.{node_succeeds}
use Rattle.pam_findings.proofs.stack.counting.succeeding.Given as goal

abbrev pub invariant-loop-node : goal.invariant-loop-node
invariant-loop-node l = table node_succeeds l.known.items (drop l.node-index l.nodes) ≡ table node_succeeds [] l.nodes
