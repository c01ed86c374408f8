use Rattle.pam_policy.specs.host.Sources.{sources_view}
use Rattle.pam_policy.proofs.HostProofs.Gathered.{gathered-more}
use Rattle.pam_policy.proofs.host.finding_stacks.Finder.add_place.Goals as goal

pub returns-clause-place : goal.returns-clause-place
returns-clause-place c names asked there found =
    gathered-more (sources_view c.args.self.now.sources.now) names asked c.args.found.now _
    (record { service = c.args.service; kind = c.args.kind; class = c.in_ok-class.class }) c.args.name.now there c.in_ok-class.ensures.adds
    c.in_ok-class.ensures.class c.in_ok-push.ensures.items found
