use Rattle.std.proofs.Common.{◌∙◌, ◌≡◌, ◌∷◌, [], List, ap, arith, length, slice_index_or, subst, sym, take, ℕ}
use Rattle.std.proofs.lemmas.List.{length-append, length-take-le}
use Rattle.pam_graph.specs.Walks.{walks_of}
use Rattle.pam_graph.specs.inner.Within.{AreWithin}
use Rattle.pam_graph.proofs.Sides.{valid, walks-node}
use Rattle.pam_graph.proofs.Withins.{AreAbove-within}
use Rattle.pam_paths.specs.Known.{may_answer}
use Rattle.pam_paths.specs.Paths.{PathValue}
use Rattle.pam_policy.specs.search.inner.Distances.{AreDistances, IsDistance}
use Rattle.pam_policy.proofs.SearchProofs.Nodes.{distances-more}
use Rattle.pam_policy.proofs.search.distances.distances.Goals as goal

pub distances_from-distances-requires : goal.distances_from-distances-requires
distances_from-distances-requires c =
    let nodes = c.args.nodes.now in
    let i = c.loop-node.node-index in
    let node = c.node-item.result in
    let some = length-take-le i nodes (omega (arith, c.loop-node-test.true)) in
    let long : length (take i nodes) ≡ length c.deref.result.now =
    some ∙ sym c.loop-node.invariant.len ∙ sym (ap length c.deref.ensures.value) in
    record {
      edges = subst (λ (n : ℕ). AreWithin n node.edges.items) long
          (AreAbove-within (take i nodes) node.module_number node.edges.items (valid nodes c.requires i node c.loop-node-test.true c.node-item.is).later);
    }

pub loop-node-preserved : goal.loop-node-preserved
loop-node-preserved c =
    let nodes = c.args.nodes.now in
    let allows = may_answer c.args.known.now in
    let query = c.args.query.now in
    let known = walks_of nodes in
    let i = c.loop-node.node-index in
    let node = c.node-item.result in
    let far = c.loop-node.far.items in
    let one = c.distances_from-distances.result in
    let long = c.loop-node.invariant.len in
    let items = c.in_ok-push.ensures.items in
    let more = length-append far (one ∷ []) in
    let here = walks-node nodes c.requires i node c.loop-node-test.true c.node-item.is in
    let knows = subst (AreDistances allows query known) (sym c.deref.ensures.value) c.loop-node.invariant.far in
    let walks : slice_index_or known (length far) [] ≡ slice_index_or known i [] = ap (λ (n : ℕ). slice_index_or known n []) long in
    record {
      len = ap length items ∙ omega (arith, more, long);
      far = distances-more allows query known far c.push.new.self.items one items c.loop-node.invariant.far
          (λ state low. subst (λ (ws : List PathValue). IsDistance allows query ws state (slice_index_or one state 0)) (sym (walks ∙ here))
          (c.distances_from-distances.ensures known knows 0 state (omega arith) low));
    }
