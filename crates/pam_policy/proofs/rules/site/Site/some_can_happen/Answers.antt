use Rattle.std.proofs.Common.{List, false, subst}
use Rattle.pam_paths.specs.Known.{may_answer}
use Rattle.pam_policy.specs.declared.search.query.Query.{Query}
use Rattle.pam_policy.specs.declared.search.query.Query.TheVariants.{Before}
use Rattle.pam_policy.specs.rules.Site.{site_view}
use Rattle.pam_policy.specs.rules.inner.Marking.{AreMarks}
use Rattle.pam_policy.specs.search.Witness.{IsFound}
use Rattle.pam_policy.specs.text.Events.{EventText}
use Rattle.pam_policy.specs.text.Lists.{events_in, events_view}
use Rattle.pam_policy.proofs.RulesProofs.Idle.{found-some, iff-same, some-found, some-run}
use Rattle.pam_policy.proofs.RulesProofs.Looking.{witness-first}
use Rattle.pam_policy.proofs.rules.site.Site.some_can_happen.Goals as goal

pub returns : goal.returns
returns c of =
    let site = site_view c.args.self.now in
    let allows = may_answer c.args.self.now.known.now in
    let events = events_in (events_view c.args.events.now) in
    let query : Query = Before c.new.result c.marks.result in
    let are = subst (λ (es : List EventText). AreMarks site false es c.marks.result) c.events.ensures c.marks.ensures in
    iff-same (some-run (IsFound allows site.items query) c.in_ok-found.found c.is_some.result c.is_some.ensures
    (witness-first allows site query c.in_ok-found.found (c.in_ok-found.ensures site.items of)))
    (λ f. found-some allows site of.numbered events c.new.result c.marks.result c.new.ensures are f.0 f.1)
    (some-found allows site of.numbered events c.new.result c.marks.result c.new.ensures are)
