use Rattle.std.proofs.Common.{◌≡◌, ◌+◌, ◌++◌, ◌∙◌, ◌∷◌, [], List, ℕ, ap, arith, drop, length, subst, sym}
use Rattle.std.proofs.lemmas.List.{drop_all, length-append}
use Rattle.pam_graph.specs.declared.tally.Tally.{Tally}
use Rattle.pam_graph.specs.Order.{AreNodes}
use Rattle.pam_graph.specs.inner.Tallies.{tally_by}
use Rattle.pam_graph.specs.Walks.{table}
use Rattle.pam_graph.specs.inner.Within.{AreWithin}
use Rattle.pam_graph.proofs.Counting.{tallies-table}
use Rattle.pam_graph.proofs.Withins.{first-within}
use Rattle.pam_graph.proofs.Remaining.{item-left}
use Rattle.pam_graph.proofs.tally.tallies.Goals as goal

pub tally_by-tally-requires : goal.tally_by-tally-requires
tally_by-tally-requires c =
    let nodes = c.args.nodes.now in
    let i = c.loop-node.node-index in
    let known = c.loop-node.tallies.items in
    let left = item-left nodes i c.node-item.result c.loop-node-test.true c.node-item.is in
    let order = c.loop-node.invariant.order in
    let within = first-within order.0 c.node-item.result (drop (i + 1) nodes) (subst (AreNodes order.0) left order.2) in
    subst (λ (x : List Tally). AreWithin (length x) c.node-item.result.edges.items) (sym c.deref.ensures.value)
    (subst (λ (n : ℕ). AreWithin n c.node-item.result.edges.items) order.1 within)

pub loop-node-preserved : goal.loop-node-preserved
unfolding AreNodes table
loop-node-preserved c =
    let nodes = c.args.nodes.now in
    let goal = c.args.goal.now in
    let i = c.loop-node.node-index in
    let known = c.loop-node.tallies.items in
    let rest = drop (i + 1) nodes in
    let node = c.node-item.result in
    let left = item-left nodes i node c.loop-node-test.true c.node-item.is in
    let tally : c.tally_by-tally.result ≡ tally_by goal known node =
    c.tally_by-tally.ensures ∙ ap (λ (x : List Tally). tally_by goal x node) c.deref.ensures.value in
    let pushed = c.in_ok-push.ensures.items in
    let long : length c.push.new.self.items ≡ length known + 1 =
    ap length pushed ∙ length-append known (c.tally_by-tally.result ∷ []) in
    let order = c.loop-node.invariant.order in
    let added = length-append order.0 (node.module_number ∷ []) in
    let more : length (order.0 ++ node.module_number ∷ []) ≡ length c.push.new.self.items = omega (arith, added, long, order.1) in
    record {
      known = ap (λ (x : List Tally). table (tally_by goal) x rest) (pushed ∙ ap (λ (x : Tally). known ++ x ∷ []) tally)
          ∙ sym (ap (table (tally_by goal) known) left) ∙ c.loop-node.invariant.known;
      order = (order.0 ++ node.module_number ∷ [], more, (subst (AreNodes order.0) left order.2).1);
    }

pub returns : goal.returns
unfolding table
returns c =
    sym (ap (table (tally_by c.args.goal.now) c.loop-node.tallies.items) (drop_all c.loop-node.node-index c.args.nodes.now c.loop-node-test.false))
    ∙ c.loop-node.invariant.known ∙ sym (tallies-table c.args.goal.now c.args.nodes.now)
