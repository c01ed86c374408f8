use Rattle.std.proofs.Common.{◌≡◌, ◌∙◌, [], None, List, ap, subst, sym, ℕ}
use Rattle.pam_graph.specs.declared.node.Node.{Node}
use Rattle.pam_graph.specs.declared.node.Target.{Target}
use Rattle.pam_graph.specs.inner.Deciding.{decided_of, first_deciding, leads_to}
use Rattle.pam_graph.specs.Order.{AreNodes, IsStart}
use Rattle.pam_graph.specs.Walks.{walks_of, walks_to}
use Rattle.pam_graph.proofs.Deciding.{decided-within, none-first, some-first}
use Rattle.pam_graph.proofs.Withins.{start-within}
use Rattle.pam_graph.proofs.decisions.Decisions.first.Goals as goal

pub leads_to-requires : goal.leads_to-requires
leads_to-requires c =
    let nodes = c.self.inside.graph.now.nodes in
    decided-within nodes c.deref.result.now c.start-start.result (c.deref.ensures.value ∙ c.self.invariant.0)
    (start-within nodes 0 c.start-start.result c.start-start.ensures.order)

pub first_from-requires-clause-order : goal.first_from-requires-clause-order
first_from-requires-clause-order c = subst (AreNodes []) (sym c.nodes.ensures.nodes) c.nodes.ensures.order

pub first_from-requires-clause-known : goal.first_from-requires-clause-known
first_from-requires-clause-known c =
    c.deref-then-leads_to.ensures.value ∙ c.self.invariant.0 ∙ ap decided_of (sym c.nodes.ensures.nodes)

pub first_from-requires-clause-start : goal.first_from-requires-clause-start
first_from-requires-clause-start c =
    subst (λ (ns : List Node). IsStart ns c.start-start.result) (sym c.nodes.ensures.nodes) c.start-start.ensures.order

pub first_from-requires-clause-leads : goal.first_from-requires-clause-leads
first_from-requires-clause-leads c =
    let nodes = c.self.inside.graph.now.nodes in
    let start = c.start-start.result in
    subst (λ (ns : List Node). first_deciding c.args.code (walks_to (walks_of ns) start) ≡ None → ⊥) (sym c.nodes.ensures.nodes)
    (some-first (walks_of nodes) c.args.code start c.leads_to.ensures.code
    (ap (λ (x : List (List ℕ)). leads_to x c.args.code start) (sym (c.deref.ensures.value ∙ c.self.invariant.0))
    ∙ sym c.leads_to.ensures.leads ∙ c.if-leads_to.true))

pub returns-then-leads_to : goal.returns-then-leads_to
unfolding first_deciding
returns-then-leads_to c =
    let nodes = c.self.inside.graph.now.nodes in
    sym c.first_from.ensures
    ∙ ap (λ (ns : List Node). first_deciding c.args.code (walks_to (walks_of ns) c.start-start.result)) c.nodes.ensures.nodes
    ∙ ap (λ (t : Target). first_deciding c.args.code (walks_to (walks_of nodes) t)) c.start-start.ensures.start
    ∙ ap (first_deciding c.args.code) c.self.view_is

pub returns : goal.returns
unfolding first_deciding
returns c =
    let nodes = c.self.inside.graph.now.nodes in
    let start = c.start-start.result in
    sym (none-first (walks_of nodes) c.args.code start c.leads_to.ensures.code
    (ap (λ (x : List (List ℕ)). leads_to x c.args.code start) (sym (c.deref.ensures.value ∙ c.self.invariant.0))
    ∙ sym c.leads_to.ensures.leads ∙ c.if-leads_to.false))
    ∙ ap (λ (t : Target). first_deciding c.args.code (walks_to (walks_of nodes) t)) c.start-start.ensures.start
    ∙ ap (first_deciding c.args.code) c.self.view_is
