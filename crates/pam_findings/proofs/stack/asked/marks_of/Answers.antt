use Rattle.std.proofs.Common.{◌+◌, ◌++◌, ◌∷◌, ◌∙◌, ◌||◌, [], List, ap, drop, subst, sym}
use Rattle.std.proofs.lemmas.List.{drop_all, drop_more}
use Rattle.pam_graph.specs.declared.node.Node.{Node}
use Rattle.pam_graph.specs.Order.{AreNodes}
use Rattle.pam_findings.specs.stack.inner.Marks.{has_number, mark_of}
use Rattle.pam_findings.proofs.StackProofs.MarkLists.{marks-all, marks-more, marks-none}
use Rattle.pam_findings.proofs.stack.asked.marks_of.Goals as goal

pub mark-requires-clause-first : goal.mark-requires-clause-first
unfolding AreNodes
mark-requires-clause-first c =
    let nodes = c.args.nodes.now in
    let i = c.loop-node.node-index in
    let order = c.loop-node.invariant.order in
    let left = drop_more nodes i c.node-item.result c.loop-node-test.true ∙ ap (λ (x : Node). x ∷ drop (i + 1) nodes) (sym c.node-item.is) in
    (subst (AreNodes order.0) left order.1).0.first

pub mark-requires-clause-last : goal.mark-requires-clause-last
unfolding AreNodes
mark-requires-clause-last c =
    let nodes = c.args.nodes.now in
    let i = c.loop-node.node-index in
    let order = c.loop-node.invariant.order in
    let left = drop_more nodes i c.node-item.result c.loop-node-test.true ∙ ap (λ (x : Node). x ∷ drop (i + 1) nodes) (sym c.node-item.is) in
    (subst (AreNodes order.0) left order.1).0.last

pub loop-node-init : goal.loop-node-init
loop-node-init c = record {
  marked = λ n from. marks-none 256 n c.args.nodes.now;
  order = ([], c.requires);
}

pub loop-node-preserved : goal.loop-node-preserved
unfolding AreNodes
loop-node-preserved c =
    let nodes = c.args.nodes.now in
    let i = c.loop-node.node-index in
    let node = c.node-item.result in
    let rest = drop (i + 1) nodes in
    let order = c.loop-node.invariant.order in
    let left = drop_more nodes i node c.loop-node-test.true ∙ ap (λ (x : Node). x ∷ rest) (sym c.node-item.is) in
    record {
      marked = λ n from. marks-more c.loop-node.marks c.mark.new.marks n node rest nodes (c.mark.ensures n from)
          (sym (ap (λ (x : List Node). mark_of c.loop-node.marks n || has_number n x) left) ∙ c.loop-node.invariant.marked n from);
      order = (order.0 ++ node.module_number ∷ [], (subst (AreNodes order.0) left order.1).1);
    }

pub returns : goal.returns
returns c n from =
    marks-all c.loop-node.marks n c.args.nodes.now
    (sym (ap (λ (x : List Node). mark_of c.loop-node.marks n || has_number n x) (drop_all c.loop-node.node-index c.args.nodes.now c.loop-node-test.false))
    ∙ c.loop-node.invariant.marked n from)
