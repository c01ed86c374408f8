use Rattle.std.proofs.Common.{List, subst, sym, ℕ}
use Rattle.pam_graph.specs.declared.node.Node.{Node}
use Rattle.pam_graph.specs.declared.node.Target.{Target}
use Rattle.pam_graph.specs.Order.{IsStart}
use Rattle.pam_graph.specs.Walks.{walks_of, walks_to}
use Rattle.pam_paths.specs.Known.{may_answer}
use Rattle.pam_policy.specs.search.inner.Distances.{AreDistances, GoodAlong, IsDistance, IsFirst}
use Rattle.pam_policy.specs.search.inner.Monitor.{first_state}
use Rattle.pam_policy.specs.search.Runs.{run_value}
use Rattle.pam_policy.specs.search.Witness.{AreApart}
use Rattle.pam_policy.proofs.SearchProofs.Witnessing.{first-witness, none-found}
use Rattle.pam_policy.proofs.search.searching.search.Goals as goal

pub returns-then-distance_to : goal.returns-then-distance_to
returns-then-distance_to c items of =
    let graph = c.args.graph.now in
    let allows = may_answer c.args.known.now in
    let query = c.args.query.now in
    let distance = c.distance_to.result in
    let known = walks_of c.nodes.result.now in
    let knows = subst (AreDistances allows query known) (sym c.deref.ensures.value) c.in_ok-far.ensures.far in
    let least = subst (λ (s : ℕ). IsDistance allows query (walks_to (walks_of graph.nodes) graph.start) s distance) c.first_state.ensures.value
    (subst (λ (t : Target). IsDistance allows query (walks_to (walks_of graph.nodes) t) c.first_state.result distance) c.start-start.ensures.start
    (subst (λ (nodes : List Node). IsDistance allows query (walks_to (walks_of nodes) c.start-start.result) c.first_state.result distance)
    c.nodes.ensures.nodes (c.distance_to.ensures known knows))) in
    none-found allows items query graph of c.nodes.ensures.order (subst (IsStart graph.nodes) c.start-start.ensures.start c.start-start.ensures.order)
    distance least c.if-distance_to.true

pub returns : goal.returns
returns c items of =
    let graph = c.args.graph.now in
    let allows = may_answer c.args.known.now in
    let query = c.args.query.now in
    let run = run_value c.in_ok-first_run.field-0 in
    let first = c.in_ok-first_run.ensures (subst AreApart (sym c.nodes-2.ensures.nodes) of.apart) in
    first-witness allows items query graph of run
    (subst (λ (t : Target). IsFirst (GoodAlong allows query (walks_to (walks_of graph.nodes) t) (first_state query)) run) c.start-start.ensures.start
    (subst (λ (nodes : List Node). IsFirst (GoodAlong allows query (walks_to (walks_of nodes) c.start-start.result) (first_state query)) run)
    c.nodes-2.ensures.nodes first))
