use Rattle.std.proofs.Common.{◌≡◌, ◌+◌, ◌++◌, ◌∙◌, ◌∷◌, [], List, ap, drop, sym}
use Rattle.std.proofs.lemmas.List.{drop_all}
use Rattle.pam_graph.specs.Walks.{table}
use Rattle.pam_graph.proofs.Remaining.{item-left}
use Rattle.pam_paths.specs.Known.{may_answer}
use Rattle.pam_findings.specs.declared.stack.leading.Onward.{Onward}
use Rattle.pam_findings.specs.stack.inner.Leading.{node_onward}
use Rattle.pam_findings.proofs.stack.leading.onwards.Goals as goal

pub loop-node-preserved : goal.loop-node-preserved
unfolding table
loop-node-preserved c =
    let nodes = c.args.nodes.now in
    let i = c.loop-node.node-index in
    let known = c.loop-node.known.items in
    let rest = drop (i + 1) nodes in
    let node = c.node-item.result in
    let value = node_onward (may_answer c.args.answers.now) c.args.sought.now.first.now c.args.sought.now.codes c.args.sought.now.later.now in
    let left = item-left nodes i node c.loop-node-test.true c.node-item.is in
    let is : c.node_onward-onward.result ≡ value known node =
    c.node_onward-onward.ensures ∙ ap (λ (x : List Onward). value x node) c.deref.ensures.value in
    ap (λ (x : List Onward). table value x rest) (c.in_ok-push.ensures.items ∙ ap (λ (o : Onward). known ++ o ∷ []) is)
    ∙ sym (ap (table value known) left) ∙ c.loop-node.invariant

pub returns : goal.returns
unfolding table
returns c =
    let value = node_onward (may_answer c.args.answers.now) c.args.sought.now.first.now c.args.sought.now.codes c.args.sought.now.later.now in
    sym (ap (table value c.loop-node.known.items) (drop_all c.loop-node.node-index c.args.nodes.now c.loop-node-test.false))
    ∙ c.loop-node.invariant
