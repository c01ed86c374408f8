use Rattle.std.proofs.Common.{◌≡◌, List, arith, length, map, subst, ℕ}
use Rattle.std.proofs.lemmas.Result.{err_from_is_err_and}
use Rattle.pam_conf.specs.declared.rule.Kind.{Kind}
use Rattle.pam_policy.specs.host.HostStacks.{places_from}
use Rattle.pam_policy.specs.host.Sources.{sources_view}
use Rattle.pam_policy.specs.host.inner.Classes.{IsGathered}
use Rattle.pam_policy.proofs.HostProofs.Gathered.{gathered-none, got-named, places-more}
use Rattle.pam_policy.proofs.host.finding_stacks.Finder.places.Goals as goal

pub loop-service-init : goal.loop-service-init
loop-service-init c =
    gathered-none (sources_view c.args.self.now.sources.now) (map (λ name. name.now) c.args.names.now) _ c.new.ensures.items c.none.ensures.found

pub loop-service-preserved : goal.loop-service-preserved
loop-service-preserved c =
    let names = c.args.names.now in
    let service = c.loop-service.service in
    subst (λ (l : List (ℕ × Kind)). IsGathered (sources_view c.args.self.now.sources.now) (map (λ name. name.now) names) l c.add_service.new.found)
    (places-more service)
    (c.in_ok-add_service.ensures.places (map (λ name. name.now) names) (places_from 0 service)
    (got-named (λ name. name.now) names service _ c.loop-service-test.true) c.loop-service.invariant)

pub returns-clause-places : goal.returns-clause-places
returns-clause-places c =
    let names = c.args.names.now in
    let all : c.loop-service.service ≡ length names = omega (arith, c.loop-service-test.false, c.loop-service.auto.service-end) in
    subst (λ (n : ℕ). IsGathered (sources_view c.args.self.now.sources.now) (map (λ name. name.now) names) (places_from 0 n) c.loop-service.found)
    all c.loop-service.invariant

pub returns-in_err-add_service-clause-reason : goal.returns-in_err-add_service-clause-reason
returns-in_err-add_service-clause-reason c =
    let p = err_from_is_err_and c.from_residual.result c.from_residual.ensures.1 in
    let names = c.args.names.now in
    rw (p.1, p.2) (c.in_err-add_service.ensures.reason (map (λ name. name.now) names)
    (got-named (λ name. name.now) names c.loop-service.service _ c.loop-service-test.true))
