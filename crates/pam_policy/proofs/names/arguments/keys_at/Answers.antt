use Rattle.std.proofs.Common.{List, map}
use Rattle.pam_policy.specs.declared.names.host.Call.{Call}
use Rattle.pam_policy.specs.names.Host.{call_view}
use Rattle.pam_policy.specs.names.Misnamed.{keys_at}
use Rattle.pam_policy.specs.names.Placed.{placed_view}
use Rattle.pam_policy.proofs.NamesProofs.Parts.{keys_split, no_keys}
use Rattle.pam_policy.proofs.NamesProofs.Rests.{made_all, made_more}
use Rattle.pam_policy.proofs.names.arguments.keys_at.Goals as goal

pub loop-call-preserved : goal.loop-call-preserved
loop-call-preserved c =
    let placed = placed_view c.args.placed.now in
    made_more (λ (calls : List Call). keys_at (map call_view calls) placed) c.args.calls.now c.loop-call.call-index c.call-item.result _ _ _
    (λ call calls. keys_split placed (call_view call) (map call_view calls)) c.loop-call-test.true c.call-item.is c.loop-call.invariant
    c.in_ok-push_keys_of.ensures

pub returns : goal.returns
returns c =
    let placed = placed_view c.args.placed.now in
    made_all (λ (calls : List Call). keys_at (map call_view calls) placed) c.args.calls.now c.loop-call.call-index _ _ (no_keys placed)
    c.loop-call-test.false c.loop-call.invariant
