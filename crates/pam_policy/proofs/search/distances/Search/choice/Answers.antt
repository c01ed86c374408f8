use Rattle.std.proofs.Common.{length, take}
use Rattle.pam_policy.proofs.SearchProofs.Best.{nodes-all, nodes-more, nodes-none}
use Rattle.pam_policy.proofs.SearchProofs.Nodes.{item-of, taken-of, within-member}
use Rattle.pam_policy.proofs.search.distances.Search.choice.Goals as goal

pub loop-edge-init : goal.loop-edge-init
loop-edge-init c known knows =
    nodes-none c.args.self.now known c.args.node.now.module_number c.args.state c.args.distance c.args.node.now.edges.items

pub choice_by-choice-requires-clause-target : goal.choice_by-choice-requires-clause-target
choice_by-choice-requires-clause-target c =
    let edges = c.args.node.now.edges.items in
    let item = item-of c.deref-edge-items.result.now edges c.loop-edge.edge-index c.edge-item.result c.deref-edge-items.ensures.value c.loop-edge-test.true
    c.edge-item.is in
    within-member (length c.args.self.now.far.now) edges c.edge-item.result c.requires.edges item.member

pub loop-edge-preserved : goal.loop-edge-preserved
loop-edge-preserved c known knows =
    let node = c.args.node.now in
    let edges = node.edges.items in
    let i = c.loop-edge.edge-index in
    let item = item-of c.deref-edge-items.result.now edges i c.edge-item.result c.deref-edge-items.ensures.value c.loop-edge-test.true c.edge-item.is in
    nodes-more c.args.self.now known node.module_number c.args.state c.args.distance edges i c.edge-item.result c.loop-edge.first
    c.choice_by-choice.result c.first_of-first.result item c.first_of-first.ensures (c.loop-edge.invariant known knows)
    (c.choice_by-choice.ensures known knows)

pub returns : goal.returns
returns c known knows =
    let node = c.args.node.now in
    let edges = node.edges.items in
    let i = c.loop-edge.edge-index in
    nodes-all c.args.self.now known node.module_number c.args.state c.args.distance edges (take i edges) c.loop-edge.first
    (taken-of c.deref-edge-items.result.now edges i c.deref-edge-items.ensures.value c.loop-edge-test.false) (c.loop-edge.invariant known knows)
