use Rattle.std.proofs.Common.{◌∙◌, Bor, List, ap, map, subst, ℕ}
use Rattle.std.proofs.lemmas.Result.{err_from_is_err_and}
use Rattle.pam_policy.specs.host.HostStacks.{IsErrorAmong}
use Rattle.pam_policy.specs.host.Sources.{sources_view}
use Rattle.pam_policy.proofs.HostProofs.Gathered.{of-all, why-none}
use Rattle.pam_policy.proofs.host.finding_stacks.Finder.found.Goals as goal

pub returns-clause-places : goal.returns-clause-places
returns-clause-places c =
    of-all (sources_view c.args.self.now.sources.now) c.deref.result.now c.args.services.now c.in_ok-found.found
    (ap (map (λ (name : Bor (List ℕ)). name.now)) c.deref.ensures.value ∙ c.in_ok-names.ensures) c.in_ok-found.ensures.places

pub returns-in_err-found-clause-reason : goal.returns-in_err-found-clause-reason
returns-in_err-found-clause-reason c =
    let p = err_from_is_err_and c.from_residual-in_err-found.result c.from_residual-in_err-found.ensures.1 in
    rw (p.1, p.2) (why-none (sources_view c.args.self.now.sources.now) c.args.services.now c.in_err-found.field-0.0
    (subst (λ (l : List (List ℕ)). IsErrorAmong (sources_view c.args.self.now.sources.now) l c.in_err-found.field-0.0)
    (ap (map (λ (name : Bor (List ℕ)). name.now)) c.deref.ensures.value ∙ c.in_ok-names.ensures) c.in_err-found.ensures.reason))
