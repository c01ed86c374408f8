use Rattle.std.proofs.Common.{◌∙◌, List, ap, map}
use Rattle.pam_policy.specs.declared.needs.suggestion.Suggestion.{Suggestion}
use Rattle.pam_policy.specs.host.Stacks.{known_site}
use Rattle.pam_policy.specs.needs.Suggestions.{suggestion_view}
use Rattle.pam_policy.proofs.NeedsProofs.Rules.{all-rules}
use Rattle.pam_policy.proofs.rules.site.Site.rules.Goals as goal

pub returns : goal.returns
returns c graphs =
    let events = c.in_ok-events.ensures in
    all-rules (known_site c.args.self.now) _ _ _ _ _ _ _ _ _ _ _ _ _ _ _ _ _ _
    (ap (λ (rules : List Suggestion). map suggestion_view rules) c.new-rules.ensures.items)
    (c.deref.ensures.value ∙ events) (c.deref-2.ensures.value ∙ events) (c.deref-4.ensures.value ∙ events) (c.deref-7.ensures.value ∙ events)
    (c.deref-8.ensures.value ∙ events) (c.deref-9.ensures.value ∙ events) c.deref-3.ensures.value c.deref-5.ensures.value c.deref-6.ensures.value
    (c.in_ok-add_chosen.ensures graphs) (c.in_ok-vouching.ensures graphs) (c.in_ok-add_groups.ensures graphs) (c.in_ok-guarding.ensures graphs)
    (c.in_ok-add_guards.ensures graphs) (c.in_ok-add_chosen-2.ensures graphs) (c.in_ok-add_chosen-3.ensures graphs)
    (c.in_ok-add_chosen-4.ensures graphs)
