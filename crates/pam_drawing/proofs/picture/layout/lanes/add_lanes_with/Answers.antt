use Rattle.std.proofs.Common.{◌≡◌, ℕ, arith, inl, inr, subst}
use Rattle.std.proofs.lemmas.Bool.{cases_lt}
use Rattle.pam_dispatch.specs.State.{state_with}
use Rattle.pam_drawing.proofs.PictureProofs.Orders.{later}
use Rattle.pam_drawing.proofs.PictureProofs.Rooms.{roomier}
use Rattle.pam_drawing.proofs.picture.layout.lanes.add_lanes_with.Goals as goal
use Rattle.pam_drawing.specs.picture.inner.Laned.{HasRoom}

pub add_lanes_at-requires-clause-order : goal.add_lanes_at-requires-clause-order
add_lanes_at-requires-clause-order c = later _ _ c.loop-number.states.items (omega arith) c.loop-number.invariant.order

pub loop-number-preserved : goal.loop-number-preserved
loop-number-preserved c =
    let now = c.in_ok-add_lanes_at.ensures in
    record {
      kept = λ s. omega (arith, c.loop-number.invariant.kept s, now.kept s);
      room = λ n below.
          let t = state_with c.args.impression n in
          elim (cases_lt n c.loop-number.number) [
            | inl before ↦
                roomier {before = c.loop-number.states.items} {after = c.add_lanes_at.new.states.items} t (c.loop-number.invariant.room n before) (now.kept t)
            | inr late ↦
                let this : c.loop-number.number ≡ n = omega (arith, late, below) in
                subst
                (λ (k : ℕ). HasRoom c.args.nodes.now c.args.twins.now c.args.ends c.add_lanes_at.new.states.items (state_with c.args.impression k))
                this now.room
          ];
      order = later _ _ c.add_lanes_at.new.states.items (omega arith) now.order;
    }

pub returns-clause-room : goal.returns-clause-room
returns-clause-room c = λ n small. c.loop-number.invariant.room n (omega (arith, small, c.loop-number-test.false))

pub returns-clause-order : goal.returns-clause-order
returns-clause-order c = later _ _ c.loop-number.states.items (omega arith) c.loop-number.invariant.order
