use Rattle.std.proofs.Common.{◌∙◌, Bor, List, ap, map, subst, sym, ℕ}
use Rattle.std.specs.Option.{option_map}
use Rattle.std.specs.Prelude.{All, IfOk}
use Rattle.pam_policy.specs.host.HostStacks.{HasGraph}
use Rattle.pam_policy.specs.host.Places.{place_view}
use Rattle.pam_policy.specs.host.Stacks.{HaveGraphs, StacksText, known_site}
use Rattle.pam_policy.specs.host.Told.{AreReports, told_class, told_place}
use Rattle.pam_policy.specs.names.Host.{host_view}
use Rattle.pam_policy.specs.text.Rules.{rule_view}
use Rattle.pam_policy.proofs.HostProofs.Told.{told-is}
use Rattle.pam_policy.proofs.host.stacks.HostStacks.judge.Goals as goal

pub returns-clause-reports : goal.returns-clause-reports
returns-clause-reports c all =
    let host = host_view c.args.host.now in
    let rules = map rule_view c.args.rules.now in
    let rows = c.args.facts.now in
    let named : List (Bor (List ℕ)) → List (List ℕ) = map (λ name. name.now) in
    let names = ap named c.deref.ensures.value ∙ c.in_ok-names.ensures in
    let places =
    ap (map place_view) c.deref-4.ensures.value
    ∙ c.in_ok-places.ensures
    ∙ ap (map (told_place (named c.deref.result.now))) c.deref-2.ensures.value in
    let known =
    ap (map (option_map known_site)) c.deref-5.ensures.value
    ∙ c.in_ok-classes.ensures.known
    ∙ ap (map (told_class rows)) c.deref-3.ensures.value in
    let graphs =
    subst HaveGraphs (sym c.deref-5.ensures.value)
    (c.in_ok-classes.ensures.graphs (subst (All HasGraph) (sym c.deref-3.ensures.value) all)) in
    subst (λ (s : StacksText). IfOk c.reports_on.result (λ reports. AreReports host s rules reports.items))
    (told-is rows c.args.self.now (named c.deref.result.now) _ _ names places known) (c.reports_on.ensures.reports graphs)
