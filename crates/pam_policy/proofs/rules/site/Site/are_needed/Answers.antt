use Rattle.std.proofs.Common.{◌∙◌, List, ap}
use Rattle.pam_policy.specs.host.Stacks.{known_site}
use Rattle.pam_policy.specs.needs.Choices.{needing_some}
use Rattle.pam_policy.specs.text.Events.{EventText}
use Rattle.pam_policy.specs.text.Lists.{OneOf}
use Rattle.pam_policy.specs.text.Sentences.{needing, sentence_view}
use Rattle.pam_policy.proofs.NeedsProofs.Deciding.{holds-ok, needed-none, needed-ok}
use Rattle.pam_policy.proofs.rules.site.Site.are_needed.Goals as goal

pub returns-then-is_empty : goal.returns-then-is_empty
returns-then-is_empty c graphs =
    needed-none (known_site c.args.self.now) c.args.events.now c.is_empty.result c.if-is_empty.true c.is_empty.ensures

pub returns : goal.returns
returns c graphs =
    let known = known_site c.args.self.now in
    let is = c.needing.ensures ∙ ap (λ (those : List EventText). needing (OneOf those)) c.in_ok-those.ensures in
    needed-ok known c.args.events.now c.is_empty.result c.holds.result c.if-is_empty.false c.is_empty.ensures
    (holds-ok known (needing_some c.args.self.now.stack.now c.args.events.now) (sentence_view c.needing.result) c.holds.result is tt
    (λ never. c.holds.ensures never graphs))
