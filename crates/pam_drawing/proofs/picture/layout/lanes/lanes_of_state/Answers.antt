use Rattle.std.proofs.Common.{◌≡◌, ◌∙◌, ap, arith, inl, inr, slice_get, sym}
use Rattle.std.proofs.lemmas.Bool.{cases_lt}
use Rattle.std.proofs.lemmas.Option.{slice_get-get_or, slice_get_within}
use Rattle.pam_dispatch.specs.Hashing.{same_state}
use Rattle.pam_dispatch.specs.declared.state.State.{State}
use Rattle.pam_graph.specs.declared.node.Node.{Node}
use Rattle.pam_drawing.proofs.PictureProofs.Ranges.{same}
use Rattle.pam_drawing.proofs.PictureProofs.Rooms.{few, self-same}
use Rattle.pam_drawing.proofs.picture.layout.lanes.lanes_of_state.Goals as goal
use Rattle.pam_drawing.specs.picture.inner.Laned.{number_at}

pub lanes_after-lanes-requires : goal.lanes_after-lanes-requires
lanes_after-lanes-requires c = omega (arith, c.number_at.ensures, few c.args.twins.now c.loop-index.index c.requires)

pub loop-index-preserved : goal.loop-index-preserved
loop-index-preserved c = λ k node h at is.
    let index = c.loop-index.index in
    let nodes = c.args.nodes.now in
    let twins = c.args.twins.now in
    elim (cases_lt k index) [
      | inl before ↦ omega (arith, c.loop-index.invariant k node before at is, c.lanes_after-lanes.ensures.kept)
      | inr late ↦
          let this : k ≡ index = omega (arith, late, h) in
          let item = same (sym (slice_get-get_or nodes index _ c.loop-index-test.true) ∙ ap (slice_get nodes) (sym this) ∙ at) in
          let state = ap (λ (n : Node). n.state) (c.index-nodes-index.is ∙ item) ∙ is in
          let needed = c.is_state-needs_lane.ensures ∙ ap (λ (s : State). same_state s c.args.state) state ∙ self-same c.args.state in
          let twin = ap (number_at twins) this ∙ sym c.number_at.ensures in
          omega (arith, twin, c.lanes_after-lanes.ensures.room needed)
    ]

pub returns : goal.returns
returns c = λ k node at is.
    let within = slice_get_within c.args.nodes.now k node at in
    c.loop-index.invariant k node (omega (arith, within, c.loop-index-test.false)) at is
