use Rattle.std.proofs.Common.{◌≡◌, ◌+◌, ◌++◌, ◌∙◌, ◌∷◌, [], List, ℕ, ap, arith, drop, length, subst, sym}
use Rattle.std.proofs.lemmas.List.{drop_all, length-append}
use Rattle.pam_graph.specs.declared.node.Edge.{Edge}
use Rattle.pam_graph.specs.Order.{AreNodes}
use Rattle.pam_graph.specs.inner.Deciding.{decided_by, with_edges}
use Rattle.pam_graph.specs.Walks.{table}
use Rattle.pam_graph.specs.inner.Within.{AreWithin}
use Rattle.pam_graph.proofs.Deciding.{decided-table}
use Rattle.pam_graph.proofs.Withins.{first-within}
use Rattle.pam_graph.proofs.Remaining.{item-left}
use Rattle.pam_graph.proofs.decisions.decided_of.Goals as goal

pub decided_by-codes-requires : goal.decided_by-codes-requires
decided_by-codes-requires c =
    let nodes = c.args.nodes.now in
    let i = c.loop-node.node-index in
    let known = c.loop-node.known.items in
    let left = item-left nodes i c.node-item.result c.loop-node-test.true c.node-item.is in
    let order = c.loop-node.invariant.order in
    let within = first-within order.0 c.node-item.result (drop (i + 1) nodes) (subst (AreNodes order.0) left order.2) in
    subst (λ (es : List Edge). AreWithin (length c.deref.result.now) es) (sym c.deref-in-loop-node.ensures.value)
    (subst (λ (x : List (List ℕ)). AreWithin (length x) c.node-item.result.edges.items) (sym c.deref.ensures.value)
    (subst (λ (n : ℕ). AreWithin n c.node-item.result.edges.items) order.1 within))

pub loop-node-preserved : goal.loop-node-preserved
unfolding AreNodes table
loop-node-preserved c =
    let nodes = c.args.nodes.now in
    let i = c.loop-node.node-index in
    let known = c.loop-node.known.items in
    let rest = drop (i + 1) nodes in
    let node = c.node-item.result in
    let left = item-left nodes i node c.loop-node-test.true c.node-item.is in
    let codes : c.decided_by-codes.result ≡ decided_by known node =
    c.decided_by-codes.ensures ∙ ap (with_edges c.deref.result.now []) c.deref-in-loop-node.ensures.value
    ∙ ap (λ (x : List (List ℕ)). decided_by x node) c.deref.ensures.value in
    let pushed = c.in_ok-push.ensures.items in
    let long : length c.push.new.self.items ≡ length known + 1 =
    ap length pushed ∙ length-append known (c.decided_by-codes.result ∷ []) in
    let order = c.loop-node.invariant.order in
    let added = length-append order.0 (node.module_number ∷ []) in
    let more : length (order.0 ++ node.module_number ∷ []) ≡ length c.push.new.self.items = omega (arith, added, long, order.1) in
    record {
      known = ap (λ (x : List (List ℕ)). table decided_by x rest) (pushed ∙ ap (λ (x : List ℕ). known ++ x ∷ []) codes)
          ∙ sym (ap (table decided_by known) left) ∙ c.loop-node.invariant.known;
      order = (order.0 ++ node.module_number ∷ [], more, (subst (AreNodes order.0) left order.2).1);
    }

pub returns : goal.returns
unfolding table
returns c =
    sym (ap (table decided_by c.loop-node.known.items) (drop_all c.loop-node.node-index c.args.nodes.now c.loop-node-test.false))
    ∙ c.loop-node.invariant.known ∙ sym (decided-table c.args.nodes.now)
