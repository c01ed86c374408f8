use Rattle.std.proofs.Common.{◌+◌, ◌∙◌, Bool, Option, ℕ, ap, drop, length, subst, sym}
use Rattle.std.proofs.lemmas.List.{drop_all}
use Rattle.pam_graph.specs.inner.Tallies.{count_to, plus, sum_from}
use Rattle.pam_graph.specs.inner.Within.{AreWithin}
use Rattle.pam_graph.proofs.Remaining.{item-left}
use Rattle.pam_graph.proofs.tally.count_by.Goals as goal

pub count_to-requires : goal.count_to-requires
unfolding AreWithin
count_to-requires c =
    let edges = c.args.edges.now in
    let i = c.loop-edge.edge-index in
    let left = item-left edges i c.edge-item.result c.loop-edge-test.true c.edge-item.is in
    (subst (AreWithin (length c.args.tallies.now)) left c.loop-edge.invariant.within).0

pub loop-edge-preserved : goal.loop-edge-preserved
unfolding AreWithin sum_from
loop-edge-preserved c =
    let edges = c.args.edges.now in
    let goal = c.args.goal.now in
    let is_met = c.args.is_met in
    let tallies = c.args.tallies.now in
    let i = c.loop-edge.edge-index in
    let count = c.loop-edge.count in
    let left = item-left edges i c.edge-item.result c.loop-edge-test.true c.edge-item.is in
    record {
      sum = ap (λ (x : Option ℕ). sum_from goal is_met c.args.number tallies x (drop (i + 1) edges)) (c.plus-count.ensures ∙ ap (plus count) (c.count_to.ensures
          ∙ ap (λ (t : Bool). count_to goal t tallies c.edge-item.result.target) c.met_after-is_met_after.ensures))
          ∙ sym (ap (sum_from goal is_met c.args.number tallies count) left) ∙ c.loop-edge.invariant.sum;
      within = (subst (AreWithin (length tallies)) left c.loop-edge.invariant.within).1;
    }

pub returns : goal.returns
unfolding sum_from
returns c =
    sym (ap (sum_from c.args.goal.now c.args.is_met c.args.number c.args.tallies.now c.loop-edge.count)
    (drop_all c.loop-edge.edge-index c.args.edges.now c.loop-edge-test.false))
    ∙ c.loop-edge.invariant.sum
