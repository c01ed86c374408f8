use Rattle.pam_policy.specs.host.Sources.{sources_view}
use Rattle.pam_policy.proofs.HostProofs.Gathered.{refused-at}
use Rattle.pam_policy.proofs.host.finding_stacks.Finder.class_refused.Goals as goal

pub returns-clause-class : goal.returns-clause-class
returns-clause-class c =
    refused-at (sources_view c.args.self.now.sources.now) c.args.name.now c.args.kind c.args.fault c.requires _ c.in_ok-class.ensures.class
