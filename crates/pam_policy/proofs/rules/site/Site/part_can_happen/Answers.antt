use Rattle.std.proofs.Common.{List, None, subst, ℕ}
use Rattle.std.specs.Prelude.{option_map}
use Rattle.pam_paths.specs.Known.{may_answer}
use Rattle.pam_policy.specs.rules.Site.{site_view}
use Rattle.pam_policy.specs.rules.inner.Choosing.{SaysFirst}
use Rattle.pam_policy.specs.rules.inner.Looking.{AimText, IsMet, with_alone}
use Rattle.pam_policy.specs.rules.inner.Marking.{part_view}
use Rattle.pam_policy.proofs.RulesProofs.Idle.{some-run}
use Rattle.pam_policy.proofs.rules.site.Site.part_can_happen.Goals as goal

pub returns-clause-can : goal.returns-clause-can
returns-clause-can c of =
    let site = site_view c.args.self.now in
    let allows = may_answer c.args.self.now.known.now in
    let part = option_map part_view c.args.part in
    let aim : List ℕ → AimText = λ codes. record { decisions = codes; with = part; without = None } in
    some-run (IsMet allows site (with_alone part)) c.in_ok-found.found c.is_some.result c.is_some.ensures
    (subst (λ (codes : List ℕ). SaysFirst (IsMet allows site (aim codes)) c.in_ok-found.found) c.all.ensures (c.in_ok-found.ensures.first of))
