use Rattle.std.proofs.Common.{◌≡◌, ◌∙◌, ◌<◌, ℕ, true, List, Some, ap, arith, map, slice_get, subst, sym}
use Rattle.pam_codes.specs.Set.{is_in}
use Rattle.pam_codes.specs.declared.code.TheConstants.{CODES}
use Rattle.pam_dispatch.specs.declared.state.State.{State}
use Rattle.pam_drawing.specs.Drawing.{drawn_ends}
use Rattle.pam_graph.specs.declared.node.Node.{Node}
use Rattle.pam_drawing.proofs.PictureProofs.Rooms.{status-of-end}
use Rattle.pam_drawing.proofs.picture.layout.lanes.Lanes.of.Goals as goal
use Rattle.pam_drawing.specs.picture.Lanes.{end_state}
use Rattle.pam_drawing.specs.picture.inner.Laned.{lanes_for, number_at, state_of}

pub lanes_of_nodes-requires : goal.lanes_of_nodes-requires
lanes_of_nodes-requires c = λ s index node small at is.
    let there = ap (λ (l : List Node). slice_get l index) (sym c.nodes-nodes.ensures.nodes) ∙ at in
    let room = (c.in_ok-states.ensures.room s small).each_node index node there is in
    let twins = ap (λ (l : List ℕ). number_at l index) (c.deref.ensures.value ∙ sym c.deref-2.ensures.value) in
    let lanes = ap (λ (l : List State). lanes_for l s) c.deref-3.ensures.value in
    omega (arith, room, twins, lanes)

pub returns : goal.returns
returns c =
    let nodes = c.nodes-nodes.result.now in
    let states = c.in_ok-states.states.items in
    let there : (decision : ℕ) → decision < CODES → is_in decision (drawn_ends c.args.graph.now) ≡ true
    → slice_get states (number_at c.in_ok-of_ends.of_ends.items decision) ≡ Some (end_state nodes decision) =
    λ decision small drawn.
    let s = end_state nodes decision in
    let status = status-of-end nodes decision in
    let same-nodes = c.nodes-nodes.ensures.nodes in
    let room = (c.in_ok-states.ensures.room s (subst (λ (n : ℕ). n < CODES) (sym status) small)).its_end
    (ap (λ (n : ℕ). is_in n (drawn_ends c.args.graph.now)) status ∙ drawn)
    (ap (λ (l : List Node). end_state l s.status) (sym same-nodes) ∙ ap (end_state nodes) status) in
    subst (λ (l : List State). slice_get l (number_at c.in_ok-of_ends.of_ends.items decision) ≡ Some s) c.deref-4.ensures.value
    (c.in_ok-of_ends.ensures decision small (subst (λ (l : List State). 0 < lanes_for l s) (sym c.deref-4.ensures.value) room)) in
    record {
      nodes =
          ap (λ (l : List State). map (slice_get l) c.in_ok-of_nodes.of_nodes.items) (sym c.deref-3.ensures.value) ∙ c.in_ok-of_nodes.ensures
          ∙ ap (map state_of) c.nodes-nodes.ensures.nodes;
      order = c.in_ok-states.ensures.order;
      ends = λ decision small drawn.
          there decision small drawn ∙ ap (λ (l : List Node). Some (end_state l decision)) c.nodes-nodes.ensures.nodes;
    }
