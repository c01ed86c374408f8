use Rattle.std.proofs.Common.{◌≡◌, ◌+◌, ◌++◌, ◌≤◌, ◌==◌, ◌∷◌, ◌∙◌, ◌||◌, [], List, ℕ, ap, drop, subst, sym}
use Rattle.std.proofs.lemmas.List.{drop_all}
use Rattle.std.specs.List.{list_any}
use Rattle.pam_graph.specs.declared.node.Edge.{Edge}
use Rattle.pam_graph.specs.declared.node.Node.{Node}
use Rattle.pam_graph.specs.Order.{AreNodes}
use Rattle.pam_graph.proofs.Remaining.{item-left}
use Rattle.pam_findings.specs.stack.inner.Counting.{some_counts, success_counts}
use Rattle.pam_findings.specs.stack.inner.Marks.{mark_of}
use Rattle.pam_findings.proofs.StackProofs.CountingMarks.{marked-more, marked-same, unmarked-left}
use Rattle.pam_findings.proofs.StackProofs.MarkLists.{or-false}
use Rattle.pam_findings.proofs.stack.counting.marks_of.Goals.{else-some_edge_counts, then-some_edge_counts}
use Rattle.pam_findings.proofs.stack.counting.marks_of.Goals as goal

pub mark-requires-clause-first : goal.mark-requires-clause-first
unfolding AreNodes
mark-requires-clause-first c =
    let left = item-left c.args.nodes.now c.loop-node.node-index c.node-item.result c.loop-node-test.true c.node-item.is in
    let order = c.loop-node.invariant.order in
    (subst (AreNodes order.0) left order.1).0.first

pub mark-requires-clause-last : goal.mark-requires-clause-last
unfolding AreNodes
mark-requires-clause-last c =
    let left = item-left c.args.nodes.now c.loop-node.node-index c.node-item.result c.loop-node-test.true c.node-item.is in
    let order = c.loop-node.invariant.order in
    (subst (AreNodes order.0) left order.1).0.last

pub loop-node-init : goal.loop-node-init
loop-node-init c = record {
  marked = λ n from. unmarked-left 256 n (some_counts c.args.known.now n c.args.nodes.now);
  order = ([], c.requires);
}

pub loop-node-preserved : goal.loop-node-preserved
unfolding AreNodes
loop-node-preserved c =
    let nodes = c.args.nodes.now in
    let known = c.args.known.now in
    let i = c.loop-node.node-index in
    let node = c.node-item.result in
    let rest = drop (i + 1) nodes in
    let old = c.loop-node.marks in
    let left = item-left nodes i node c.loop-node-test.true c.node-item.is in
    let order = c.loop-node.invariant.order in
    let counts = list_any (success_counts known) node.edges.items in
    let is : c.some_edge_counts.result ≡ counts =
    c.some_edge_counts.ensures ∙ ap (λ (es : List Edge). list_any (success_counts known) es) c.deref.ensures.value in
    let before : (n : ℕ) → 1 ≤ n → (mark_of old n || some_counts known n (node ∷ rest)) ≡ some_counts known n nodes =
    λ n from. sym (ap (λ (x : List Node). mark_of old n || some_counts known n x) left) ∙ c.loop-node.invariant.marked n from in
    let later : (before : List ℕ) × AreNodes before rest = (order.0 ++ node.module_number ∷ [], (subst (AreNodes order.0) left order.1).1) in
    elim c.if-some_edge_counts.branch [
      | then-some_edge_counts w ↦ rw w.marks-is (record {
        marked = λ n from. marked-more (mark_of w.mark.new.marks n) (mark_of old n) (n == node.module_number) counts (some_counts known n rest)
            (some_counts known n nodes) (w.mark.ensures n from) (sym is ∙ w.if-some_edge_counts.true) (before n from);
        order = later;
      })
      | else-some_edge_counts w ↦ rw w.marks-is (record {
        marked = λ n from. marked-same (mark_of old n) (n == node.module_number) counts (some_counts known n rest) (some_counts known n nodes)
            (sym is ∙ w.if-some_edge_counts.false) (before n from);
        order = later;
      })
    ]

pub returns : goal.returns
returns c n from =
    let marks = c.loop-node.marks in
    sym (or-false (mark_of marks n))
    ∙ sym (ap (λ (x : List Node). mark_of marks n || some_counts c.args.known.now n x)
    (drop_all c.loop-node.node-index c.args.nodes.now c.loop-node-test.false))
    ∙ c.loop-node.invariant.marked n from
