use Rattle.std.proofs.Common.{◌∙◌, ◌<◌, ℕ, Some, ap, refl, slice_get, subst, sym}
use Rattle.std.proofs.lemmas.Option.{slice_get-get_or}
use Rattle.pam_drawing.proofs.PictureProofs.Rooms.{taken-more}
use Rattle.pam_drawing.proofs.picture.layout.lanes.lanes_of_nodes.Goals as goal
use Rattle.pam_drawing.specs.picture.inner.Laned.{lanes_for, state_of}

pub loop-index-preserved : goal.loop-index-preserved
loop-index-preserved c =
    let nodes = c.args.nodes.now in
    let index = c.loop-index.index in
    let node = c.index-nodes-index.result in
    let at = slice_get-get_or nodes index _ c.loop-index-test.true ∙ ap Some (sym c.index-nodes-index.is) in
    let found = c.requires node.state index node c.lane_of.ensures.status at refl in
    taken-more (slice_get c.args.states.now) state_of c.loop-index.lanes.items _ _ nodes index node c.loop-index.invariant
    (c.lane_of.ensures.lane (subst (λ (n : ℕ). n < lanes_for c.args.states.now node.state) (sym c.number_at.ensures) found))
    c.index-nodes-index.is c.loop-index-test.true c.in_ok-push.ensures.items
