use Rattle.std.proofs.Common.{◌≡◌, ◌+◌, ◌++◌, ◌∙◌, ◌∷◌, [], Bool, List, ap, drop, sym}
use Rattle.std.proofs.lemmas.List.{drop_all}
use Rattle.std.specs.List.{list_any}
use Rattle.pam_graph.specs.declared.node.Edge.{Edge}
use Rattle.pam_graph.specs.Walks.{table}
use Rattle.pam_graph.proofs.Remaining.{item-left}
use Rattle.pam_findings.specs.stack.inner.Counting.{leads_to_success, node_succeeds}
use Rattle.pam_findings.proofs.stack.counting.succeeding.Goals as goal

pub loop-node-preserved : goal.loop-node-preserved
unfolding table
loop-node-preserved c =
    let nodes = c.args.nodes.now in
    let i = c.loop-node.node-index in
    let known = c.loop-node.known.items in
    let rest = drop (i + 1) nodes in
    let node = c.node-item.result in
    let left = item-left nodes i node c.loop-node-test.true c.node-item.is in
    let is : c.some_succeeds-succeeds.result ≡ node_succeeds known node =
    c.some_succeeds-succeeds.ensures ∙ ap (λ (es : List Edge). list_any (leads_to_success c.deref.result.now) es) c.deref-in-loop-node.ensures.value
    ∙ ap (λ (x : List Bool). node_succeeds x node) c.deref.ensures.value in
    ap (λ (x : List Bool). table node_succeeds x rest) (c.in_ok-push.ensures.items ∙ ap (λ (t : Bool). known ++ t ∷ []) is)
    ∙ sym (ap (table node_succeeds known) left) ∙ c.loop-node.invariant

pub returns : goal.returns
unfolding table
returns c =
    sym (ap (table node_succeeds c.loop-node.known.items) (drop_all c.loop-node.node-index c.args.nodes.now c.loop-node-test.false))
    ∙ c.loop-node.invariant
