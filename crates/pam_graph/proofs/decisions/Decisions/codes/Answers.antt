use Rattle.std.proofs.Common.{◌∙◌, List, ℕ, ap}
use Rattle.pam_graph.specs.inner.Deciding.{decided_of, with_target}
use Rattle.pam_graph.specs.Goals.{decided}
use Rattle.pam_graph.specs.Walks.{walks_of, walks_to}
use Rattle.pam_graph.specs.declared.node.Target.{Target}
use Rattle.pam_graph.proofs.Deciding.{decided-start, decided-within}
use Rattle.pam_graph.proofs.Withins.{start-within}
use Rattle.pam_graph.proofs.decisions.Decisions.codes.Goals as goal

pub with_target-requires : goal.with_target-requires
with_target-requires c =
    let nodes = c.self.inside.graph.now.nodes in
    decided-within nodes c.deref.result.now c.start-start.result (c.deref.ensures.value ∙ c.self.invariant.0)
    (start-within nodes 0 c.start-start.result c.start-start.ensures.order)

pub returns : goal.returns
returns c =
    let nodes = c.self.inside.graph.now.nodes in
    c.with_target.ensures
    ∙ ap (λ (x : List (List ℕ)). with_target x c.empty.result c.start-start.result) (c.deref.ensures.value ∙ c.self.invariant.0)
    ∙ ap (λ (x : List ℕ). with_target (decided_of nodes) x c.start-start.result) c.empty.ensures
    ∙ decided-start nodes c.start-start.result
    ∙ ap (λ (t : Target). decided (walks_to (walks_of nodes) t)) c.start-start.ensures.start
    ∙ ap decided c.self.view_is
