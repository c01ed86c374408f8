use Rattle.pam_policy.specs.host.Stacks.{known_site}
use Rattle.pam_policy.specs.text.Sentences.{sentence_view}
use Rattle.pam_policy.proofs.NeedsProofs.Deciding.{obeyed-not, obeyed-ok}
use Rattle.pam_policy.proofs.rules.site.Site.is_obeyed.Goals as goal

pub returns-then-not-holds : goal.returns-then-not-holds
returns-then-not-holds c graphs =
    obeyed-not (known_site c.args.self.now) c.args.event (sentence_view c.in_ok-sentence.sentence) c.in_ok-holds.holds c.in_ok-sentence.ensures
    c.if-not-holds.true (λ never. c.in_ok-holds.ensures never graphs)

pub returns : goal.returns
returns c graphs =
    obeyed-ok (known_site c.args.self.now) c.args.event (sentence_view c.in_ok-sentence.sentence) c.in_ok-holds.holds c.can_fail.result
    c.in_ok-sentence.ensures c.if-not-holds.false (λ never. c.in_ok-holds.ensures never graphs) (c.can_fail.ensures graphs)
