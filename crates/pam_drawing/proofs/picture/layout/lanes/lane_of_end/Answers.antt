use Rattle.std.proofs.Common.{◌≡◌, ◌∙◌, ◌<◌, ℕ, Bool, true, None, Option, Some, ap, arith, cond, nat_lt, slice_get, subst}
use Rattle.pam_codes.specs.declared.code.TheConstants.{CODES}
use Rattle.pam_dispatch.specs.declared.state.State.{State}
use Rattle.pam_drawing.proofs.PictureProofs.Ranges.{same}
use Rattle.pam_drawing.proofs.picture.layout.lanes.lane_of_end.Goals as goal
use Rattle.pam_drawing.specs.picture.Lanes.{end_state}
use Rattle.pam_drawing.specs.picture.inner.Laned.{lanes_for}

pub returns-in-Some : goal.returns-in-Some
returns-in-Some c =
    let states = c.args.states.now in
    let small : nat_lt c.args.number CODES ≡ true = grind (arith, c.requires) in
    let is : Some c.in-Some.decision ≡ Some c.args.number =
    c.in-Some.ensures ∙ ap {B = Option ℕ} (λ (t : Bool). cond t (Some c.args.number) None) small in
    let state = c.state_of_end.ensures ∙ ap (end_state c.args.nodes.now) (same is) in
    subst (λ (s : State). 0 < lanes_for states s → slice_get states c.lane_of.result ≡ Some s) state c.lane_of.ensures.lane
