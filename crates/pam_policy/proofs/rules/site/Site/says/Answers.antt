use Rattle.pam_policy.specs.host.Stacks.{known_site}
use Rattle.pam_policy.specs.needs.Choices.{sentence_about}
use Rattle.pam_policy.specs.text.Sentences.{sentence_view}
use Rattle.pam_policy.proofs.NeedsProofs.Deciding.{holds-ok, never-about}
use Rattle.pam_policy.proofs.rules.site.Site.says.Goals as goal

pub returns : goal.returns
returns c graphs =
    let items = c.args.self.now.stack.now in
    holds-ok (known_site c.args.self.now) (sentence_about items c.args.verb c.args.event) (sentence_view c.in_ok-sentence.sentence) c.holds.result
    c.in_ok-sentence.ensures (never-about items c.args.verb c.args.event) (λ never. c.holds.ensures never graphs)
