use Rattle.std.proofs.Common.{◌≡◌, ◌∙◌, List, None, Option, Some, ap, arith, cond, slice_get, sym}
use Rattle.std.proofs.lemmas.Option.{slice_get-get_or}
use Rattle.std.specs.List.{list_any}
use Rattle.pam_dispatch.specs.declared.state.State.{State}
use Rattle.pam_drawing.proofs.PictureProofs.Orders.{next-lane, next-top}
use Rattle.pam_drawing.proofs.PictureProofs.Ranges.{mapped-more}
use Rattle.pam_drawing.proofs.picture.layout.heights.all_heights.Goals as goal
use Rattle.pam_drawing.specs.picture.inner.Laned.{leaves, state_at, state_in}

pub loop-lane-preserved : goal.loop-lane-preserved
loop-lane-preserved c =
    let states = c.args.grid.now.lanes.states.items in
    let lane = c.loop-lane.lane in
    let before = c.loop-lane.heights.items in
    let so-far = c.loop-lane.invariant in
    let pushed = c.in_ok-push.ensures.items in
    let is : Some c.state-item.result ≡ slice_get states lane =
    ap Some c.state-item.is ∙ sym (slice_get-get_or c.deref-state-items.result.now lane _ c.loop-lane-test.true)
    ∙ ap (λ (l : List State). slice_get l lane) c.deref-state-items.ensures.value in
    record {
      states =
          mapped-more state_at (state_in c.args.all.now states) before _ _ lane so-far.states
          (c.state_if_used.ensures ∙ ap (λ (o : Option State). cond (list_any (leaves lane) c.args.all.now) o None) is) pushed;
      order = next-lane before _ _ c.loop-lane.top so-far.order so-far.ended (omega arith) pushed;
      ended = next-top before _ _ c.loop-lane.top _ so-far.ended (omega arith) (omega arith) pushed;
    }
