use Rattle.std.proofs.Common.{map}
use Rattle.pam_policy.specs.host.HostStacks.{places_from}
use Rattle.pam_policy.specs.host.Sources.{sources_view}
use Rattle.pam_policy.specs.host.inner.Classes.{IsGathered}
use Rattle.pam_policy.proofs.host.finding_stacks.Finder.places.Given as goal

-- what is found of the services so far
abbrev pub invariant-loop-service : goal.invariant-loop-service
invariant-loop-service l =
    IsGathered (sources_view l.self.sources.now) (map (λ name. name.now) l.names) (places_from 0 l.service) l.found
