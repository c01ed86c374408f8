use Rattle.std.proofs.Common.{◌+◌, ◌∙◌, List, ℕ, ap, drop, length, subst, sym}
use Rattle.std.proofs.lemmas.List.{drop_all}
use Rattle.pam_graph.specs.inner.Deciding.{with_edges}
use Rattle.pam_graph.specs.inner.Within.{AreWithin}
use Rattle.pam_graph.proofs.Remaining.{item-left}
use Rattle.pam_graph.proofs.decisions.decided_by.Goals as goal

pub loop-edge-init : goal.loop-edge-init
loop-edge-init c = record {
  codes = ap (λ (x : List ℕ). with_edges c.args.known.now x c.args.edges.now) c.empty-codes.ensures;
  within = c.requires;
}

pub with_target-codes-requires : goal.with_target-codes-requires
unfolding AreWithin
with_target-codes-requires c =
    let edges = c.args.edges.now in
    let i = c.loop-edge.edge-index in
    let left = item-left edges i c.edge-item.result c.loop-edge-test.true c.edge-item.is in
    (subst (AreWithin (length c.args.known.now)) left c.loop-edge.invariant.within).0

pub loop-edge-preserved : goal.loop-edge-preserved
unfolding AreWithin with_edges
loop-edge-preserved c =
    let edges = c.args.edges.now in
    let known = c.args.known.now in
    let i = c.loop-edge.edge-index in
    let left = item-left edges i c.edge-item.result c.loop-edge-test.true c.edge-item.is in
    record {
      codes = ap (λ (x : List ℕ). with_edges known x (drop (i + 1) edges)) c.with_target-codes.ensures
          ∙ sym (ap (with_edges known c.loop-edge.codes) left) ∙ c.loop-edge.invariant.codes;
      within = (subst (AreWithin (length known)) left c.loop-edge.invariant.within).1;
    }

pub returns : goal.returns
unfolding with_edges
returns c =
    sym (ap (with_edges c.args.known.now c.loop-edge.codes) (drop_all c.loop-edge.edge-index c.args.edges.now c.loop-edge-test.false))
    ∙ c.loop-edge.invariant.codes
