use Rattle.std.proofs.Common.{◌≡◌, refl, subst, sym}
use Rattle.pam_dispatch.specs.State.{state_with}
use Rattle.pam_dispatch.specs.declared.state.Impression.{Impression}
use Rattle.pam_dispatch.specs.declared.state.Impression.TheVariants.{Negative, Positive, Undef}
use Rattle.pam_drawing.specs.Drawing.{drawn_ends}
use Rattle.pam_drawing.proofs.PictureProofs.Rooms.{roomier}
use Rattle.pam_drawing.proofs.picture.layout.lanes.states_of_lanes.Goals as goal
use Rattle.pam_drawing.specs.picture.inner.Laned.{HasRoom}

pub returns-clause-room : goal.returns-clause-room
returns-clause-room c = λ s small.
    let twins = c.args.twins.now in
    let nodes = c.nodes-nodes.result.now in
    let ends = c.drawn_ends-ends.result in
    let one = c.add_lanes_with.new.states.items in
    let two = c.add_lanes_with-2.new.states.items in
    let states = c.add_lanes_with-3.new.states.items in
    let first = c.in_ok-add_lanes_with.ensures in
    let second = c.in_ok-add_lanes_with-2.ensures in
    let third = c.in_ok-add_lanes_with-3.ensures in
    let n = s.status in
    let room : HasRoom nodes twins ends states s =
    elim s.impression as (λ (i : Impression). s.impression ≡ i → HasRoom nodes twins ends states (state_with i n)) [
      | Undef ↦ λ e.
          let t = state_with Undef n in
          roomier {before = two} {after = states} t (roomier {before = one} {after = two} t (first.room n small) (second.kept t)) (third.kept t)
      | Positive ↦ λ e. let t = state_with Positive n in roomier {before = two} {after = states} t (second.room n small) (third.kept t)
      | Negative ↦ λ e. third.room n small
    ] refl in
    subst (λ all. HasRoom all twins (drawn_ends c.args.graph.now) states s) c.nodes-nodes.ensures.nodes
    (subst (λ drawn. HasRoom nodes twins drawn states s) c.drawn_ends-ends.ensures room)
