use Rattle.std.proofs.Common.{◌++◌, ◌∷◌, [], List, OnOk, subst, ℕ}
use Rattle.std.proofs.lemmas.Result.{err_from_is_err_and}
use Rattle.pam_conf.specs.declared.rule.Kind.{Kind}
use Rattle.pam_conf.specs.declared.rule.Kind.TheVariants.{Auth, Account, Password, Session}
use Rattle.pam_policy.specs.host.Sources.{sources_view}
use Rattle.pam_policy.specs.host.inner.Classes.{IsGathered}
use Rattle.pam_policy.proofs.HostProofs.Gathered.{among, among-if, four-more}
use Rattle.pam_policy.proofs.host.finding_stacks.Finder.add_service.Goals as goal

pub returns-clause-places : goal.returns-clause-places
returns-clause-places c names asked there found =
    let s = c.args.service in
    let first = c.in_ok-add_place.ensures.place names asked there found in
    let second = c.in_ok-add_place-2.ensures.place names (asked ++ (s, Auth) ∷ []) there first in
    let third = c.in_ok-add_place-3.ensures.place names ((asked ++ (s, Auth) ∷ []) ++ (s, Account) ∷ []) there second in
    subst (λ (l : List (ℕ × Kind)). OnOk c.add_place-4.result (IsGathered (sources_view c.args.self.now.sources.now) names l c.add_place-4.new.found))
    (four-more asked (s, Auth) (s, Account) (s, Password) (s, Session))
    (c.add_place-4.ensures.place names (((asked ++ (s, Auth) ∷ []) ++ (s, Account) ∷ []) ++ (s, Password) ∷ []) there third)

pub returns-in_err-add_place-clause-reason : goal.returns-in_err-add_place-clause-reason
returns-in_err-add_place-clause-reason c names there =
    let p = err_from_is_err_and c.from_residual.result c.from_residual.ensures.1 in
    rw (p.1, p.2) (among (sources_view c.args.self.now.sources.now) names c.args.service c.args.name.now Auth _ there
    c.in_err-add_place.ensures.reason)

pub returns-in_err-add_place-2-clause-reason : goal.returns-in_err-add_place-2-clause-reason
returns-in_err-add_place-2-clause-reason c names there =
    let p = err_from_is_err_and c.from_residual-in_err-add_place-2.result c.from_residual-in_err-add_place-2.ensures.1 in
    rw (p.1, p.2) (among (sources_view c.args.self.now.sources.now) names c.args.service c.args.name.now Account _ there
    c.in_err-add_place-2.ensures.reason)

pub returns-in_err-add_place-3-clause-reason : goal.returns-in_err-add_place-3-clause-reason
returns-in_err-add_place-3-clause-reason c names there =
    let p = err_from_is_err_and c.from_residual-in_err-add_place-3.result c.from_residual-in_err-add_place-3.ensures.1 in
    rw (p.1, p.2) (among (sources_view c.args.self.now.sources.now) names c.args.service c.args.name.now Password _ there
    c.in_err-add_place-3.ensures.reason)

pub returns-clause-reason : goal.returns-clause-reason
returns-clause-reason c names there =
    among-if (sources_view c.args.self.now.sources.now) names c.args.service c.args.name.now Session c.add_place-4.result there
    c.add_place-4.ensures.reason
