-- the first choice is that of the edges so far
use Rattle.std.proofs.Common.{List, take}
use Rattle.pam_paths.specs.Paths.{PathValue}
use Rattle.pam_policy.specs.search.inner.Choices.{IsChoice, IsFirstOf}
use Rattle.pam_policy.specs.search.inner.Searches.{Knows}
use Rattle.pam_policy.proofs.search.distances.Search.choice.Given as goal

abbrev pub invariant-loop-edge : goal.invariant-loop-edge
invariant-loop-edge l =
    (known : List (List PathValue)) → Knows l.self known →
    IsFirstOf (IsChoice l.self known l.node.module_number l.state l.distance l.node.edges.items)
    (IsChoice l.self known l.node.module_number l.state l.distance (take l.edge-index l.node.edges.items)) l.first
