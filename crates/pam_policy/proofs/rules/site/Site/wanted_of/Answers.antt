use Rattle.std.proofs.Common.{◌<◌, ◌≡◌, List, length, subst, take}
use Rattle.pam_policy.specs.declared.search.marks.Marks.{Marks}
use Rattle.pam_policy.specs.rules.Site.{site_view}
use Rattle.pam_policy.specs.text.Lists.{events_view}
use Rattle.pam_policy.proofs.RulesProofs.TooMany.{full-of, too-many}
use Rattle.pam_policy.proofs.rules.site.Site.wanted_of.Goals as goal

pub returns-then-is_err-clause-reason : goal.returns-then-is_err-clause-reason
returns-then-is_err-clause-reason c =
    let items = c.deref-marks-items.result.now in
    let all = c.in_ok-each.each.items in
    let i = c.loop-marks.marks-index in
    let taken = c.loop-marks.wanted.items in
    let same = c.deref-marks-items.ensures.value in
    let four = full-of c.try_push.result (length taken) c.is_err.result c.is_err.ensures.value c.if-is_err.true c.try_push.ensures.full in
    too-many (site_view c.args.self.now) c.args.part.now.is_strict (events_view c.args.part.now.events.now) all taken i c.in_ok-each.ensures
    (subst (λ (xs : List Marks). taken ≡ take i xs) same c.loop-marks.invariant) four (subst (λ (xs : List Marks). i < length xs) same c.loop-marks-test.true)
