-- what is known so far, and then of the nodes that are left, is what is known of all nodes
use Rattle.std.proofs.Common.{◌≡◌, [], drop}
use Rattle.pam_graph.specs.Walks.{table}
use Rattle.pam_paths.specs.Known.{may_answer}
use Rattle.pam_findings.specs.stack.inner.Leading.{node_onward}
use Rattle.pam_findings.proofs.stack.leading.onwards.Given as goal

abbrev pub invariant-loop-node : goal.invariant-loop-node
invariant-loop-node l =
    table (node_onward (may_answer l.answers) l.sought.first.now l.sought.codes l.sought.later.now) l.known.items (drop l.node-index l.nodes)
    ≡ table (node_onward (may_answer l.answers) l.sought.first.now l.sought.codes l.sought.later.now) [] l.nodes
