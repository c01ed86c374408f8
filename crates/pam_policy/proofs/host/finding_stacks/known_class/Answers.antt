use Rattle.std.proofs.Common.{refl}
use Rattle.pam_policy.specs.host.Sources.{sources_view}
use Rattle.pam_policy.proofs.HostProofs.Gathered.{accepted}
use Rattle.pam_policy.proofs.host.finding_stacks.known_class.Goals as goal

pub returns-in-Err-clause-reason : goal.returns-in-Err-clause-reason
returns-in-Err-clause-reason c =
    record { items = c.args.stack; accepted = c.requires; first = c.in-Err.ensures.known; read = c.in-Err.ensures.read }

pub returns-clause-class : goal.returns-clause-class
returns-clause-class c =
    accepted (sources_view c.args.sources.now) c.args.service.now c.args.kind
    (record { kind = c.args.kind; stack = c.args.stack; known = c.in-Ok.known }) refl c.requires c.in-Ok.ensures.known _ c.in_ok-class.ensures
