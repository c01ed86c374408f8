use Rattle.std.proofs.Common.{List, map}
use Rattle.pam_policy.specs.declared.names.placed.PlacedEvent.{PlacedEvent}
use Rattle.pam_policy.specs.names.Host.{host_view}
use Rattle.pam_policy.specs.names.Misnamed.{of_arguments}
use Rattle.pam_policy.specs.names.Placed.{placed_view}
use Rattle.pam_policy.proofs.NamesProofs.Parts.{arguments_split, no_arguments}
use Rattle.pam_policy.proofs.NamesProofs.Saying.{said_all, said_more}
use Rattle.pam_policy.proofs.names.arguments.say_of_arguments.Goals as goal

pub loop-placed-preserved : goal.loop-placed-preserved
loop-placed-preserved c =
    let host = host_view c.args.host.now in
    said_more (λ (events : List PlacedEvent). of_arguments host (map placed_view events)) c.args.events.now c.loop-placed.placed-index
    c.placed-item.result _ _ _ (λ placed events. arguments_split host (placed_view placed) (map placed_view events)) c.loop-placed-test.true
    c.placed-item.is c.loop-placed.invariant c.in_ok-say_of_event.ensures

pub returns : goal.returns
returns c =
    let host = host_view c.args.host.now in
    said_all (λ (events : List PlacedEvent). of_arguments host (map placed_view events)) c.args.events.now c.loop-placed.placed-index _ _
    (no_arguments host) c.loop-placed-test.false c.loop-placed.invariant
