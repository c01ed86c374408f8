use Rattle.std.proofs.Common.{length, refl, take}
use Rattle.pam_paths.specs.Known.{may_answer}
use Rattle.pam_policy.proofs.SearchProofs.Nodes.{edges-all, edges-more, edges-none, item-of, taken-of, within-member}
use Rattle.pam_policy.proofs.search.distances.Search.distance_from.Goals as goal

pub loop-edge-init : goal.loop-edge-init
loop-edge-init c known knows =
    let search = c.args.self.now in
    let node = c.args.node.now in
    edges-none (may_answer search.known.now) search.query.now known node.module_number c.args.state node.edges.items 65535 refl

pub distance_by-requires-clause-target : goal.distance_by-requires-clause-target
distance_by-requires-clause-target c =
    let item = item-of c.deref-edge-items.result.now c.args.node.now.edges.items c.loop-edge.edge-index c.edge-item.result c.deref-edge-items.ensures.value
    c.loop-edge-test.true c.edge-item.is in
    within-member (length c.args.self.now.far.now) c.args.node.now.edges.items c.edge-item.result c.requires.edges item.member

pub loop-edge-preserved : goal.loop-edge-preserved
loop-edge-preserved c known knows =
    let search = c.args.self.now in
    let node = c.args.node.now in
    let edge = c.edge-item.result in
    let i = c.loop-edge.edge-index in
    edges-more (may_answer search.known.now) search.query.now known node.module_number c.args.state node.edges.items i edge c.loop-edge.least
    c.distance_by.result c.min-least.result
    (item-of c.deref-edge-items.result.now node.edges.items i edge c.deref-edge-items.ensures.value c.loop-edge-test.true c.edge-item.is)
    c.min-least.ensures (c.loop-edge.invariant known knows) (c.distance_by.ensures known knows)

pub returns : goal.returns
returns c known knows =
    let search = c.args.self.now in
    let node = c.args.node.now in
    let i = c.loop-edge.edge-index in
    edges-all (may_answer search.known.now) search.query.now known node.module_number c.args.state node.edges.items (take i node.edges.items)
    c.loop-edge.least c.saturating_add.result
    (taken-of c.deref-edge-items.result.now node.edges.items i c.deref-edge-items.ensures.value c.loop-edge-test.false) c.saturating_add.ensures
    (c.loop-edge.invariant known knows)
