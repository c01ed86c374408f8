-- the least is that of the edges so far
use Rattle.std.proofs.Common.{List, take}
use Rattle.pam_paths.specs.Known.{may_answer}
use Rattle.pam_paths.specs.Paths.{PathValue}
use Rattle.pam_policy.specs.search.inner.Searches.{Knows}
use Rattle.pam_policy.proofs.SearchProofs.Nodes.{IsByOne, IsLeastOf}
use Rattle.pam_policy.proofs.search.distances.Search.distance_from.Given as goal

abbrev pub invariant-loop-edge : goal.invariant-loop-edge
invariant-loop-edge l =
    (known : List (List PathValue)) → Knows l.self known →
    IsLeastOf (IsByOne (may_answer l.self.known.now) l.self.query.now known l.node.module_number l.state l.node.edges.items)
    (IsByOne (may_answer l.self.known.now) l.self.query.now known l.node.module_number l.state (take l.edge-index l.node.edges.items)) l.least
