use Rattle.std.proofs.Common.{map}
use Rattle.pam_paths.specs.Known.{may_answer}
use Rattle.pam_policy.specs.rules.Judging.{IsSettledBy}
use Rattle.pam_policy.specs.rules.Settling.{strict}
use Rattle.pam_policy.specs.rules.Site.{site_view}
use Rattle.pam_policy.specs.rules.inner.Choosing.{SaysFirst}
use Rattle.pam_policy.specs.rules.inner.Looking.{IsLate}
use Rattle.pam_policy.specs.text.Events.{event_view}
use Rattle.pam_policy.specs.text.Lists.{events_view}
use Rattle.pam_policy.specs.text.Sentences.{Before}
use Rattle.pam_policy.proofs.RulesProofs.Judging.{before-first}
use Rattle.pam_policy.proofs.RulesProofs.Lists.{ok-map}
use Rattle.pam_policy.proofs.rules.site.Site.first_unordered.Goals as goal

pub returns : goal.returns
returns c of =
    let site = site_view c.args.self.now in
    let allows = may_answer c.args.self.now.known.now in
    let first = events_view c.args.first.now in
    let others = events_view c.args.others.now in
    let later = map event_view c.events.result.now in
    ok-map (SaysFirst (IsLate allows site (strict first) later)) (SaysFirst (IsSettledBy allows site (Before first others))) c.first_late.result
    (λ found h. before-first allows site first others later found c.events.ensures h) (c.first_late.ensures of)
