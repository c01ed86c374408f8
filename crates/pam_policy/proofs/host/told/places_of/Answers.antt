use Rattle.std.proofs.Common.{map}
use Rattle.pam_policy.specs.host.Places.{place_view}
use Rattle.pam_policy.specs.host.Told.{told_place}
use Rattle.pam_policy.proofs.HostProofs.Told.{mapped-next, named}
use Rattle.pam_policy.proofs.host.told.places_of.Goals as goal

pub loop-place-preserved : goal.loop-place-preserved
loop-place-preserved c =
    mapped-next place_view (told_place (map (λ name. name.now) c.args.names.now)) c.args.places.now c.loop-place.place-index _ c.loop-place.told.items _ _
    c.in_ok-push.ensures.items c.loop-place-test.true (named _ _ _ _ c.name_at.ensures) c.loop-place.invariant
