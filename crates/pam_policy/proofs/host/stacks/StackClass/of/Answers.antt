use Rattle.std.proofs.Common.{◌∙◌, refl, sym}
use Rattle.pam_policy.specs.host.Sources.{sources_view}
use Rattle.pam_policy.proofs.HostProofs.Gathered.{refused}
use Rattle.pam_policy.proofs.host.stacks.StackClass.of.Goals as goal

pub returns-in-Err-clause-class : goal.returns-in-Err-clause-class
returns-in-Err-clause-class c =
    refused (sources_view c.args.sources.now) c.args.service.now c.args.kind c.in-Err.fault (sym c.in_ok-resolved.ensures ∙ c.in-Err.is) _
    (record { kind_is = refl; stack = refl })
