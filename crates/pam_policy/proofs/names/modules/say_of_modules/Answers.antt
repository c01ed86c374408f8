use Rattle.std.proofs.Common.{List, map}
use Rattle.pam_policy.specs.declared.names.placed.PlacedEvent.{PlacedEvent}
use Rattle.pam_policy.specs.names.Host.{host_view}
use Rattle.pam_policy.specs.names.Misnamed.{of_modules}
use Rattle.pam_policy.specs.names.Placed.{placed_view}
use Rattle.pam_policy.proofs.NamesProofs.Parts.{modules_split, no_modules}
use Rattle.pam_policy.proofs.NamesProofs.Saying.{said_all, said_more}
use Rattle.pam_policy.proofs.names.modules.say_of_modules.Goals as goal

pub loop-placed-preserved : goal.loop-placed-preserved
loop-placed-preserved c =
    let host = host_view c.args.host.now in
    said_more (λ (events : List PlacedEvent). of_modules host (map placed_view events)) c.args.events.now c.loop-placed.placed-index
    c.placed-item.result _ _ _ (λ placed events. modules_split host (placed_view placed) (map placed_view events)) c.loop-placed-test.true
    c.placed-item.is c.loop-placed.invariant c.in_ok-say_of_event.ensures

pub returns : goal.returns
returns c =
    let host = host_view c.args.host.now in
    said_all (λ (events : List PlacedEvent). of_modules host (map placed_view events)) c.args.events.now c.loop-placed.placed-index _ _
    (no_modules host) c.loop-placed-test.false c.loop-placed.invariant
