use Rattle.pam_paths.specs.Known.{may_answer}
use Rattle.pam_policy.specs.rules.Site.{site_view}
use Rattle.pam_policy.specs.text.Sentences.{sentence_view}
use Rattle.pam_policy.proofs.NeedsProofs.Deciding.{unbroken-as}
use Rattle.pam_policy.proofs.rules.site.Site.holds.Goals as goal

pub returns-in-Ok : goal.returns-in-Ok
returns-in-Ok c never graphs =
    unbroken-as (may_answer c.args.self.now.known.now) (site_view c.args.self.now) (sentence_view c.args.sentence.now) c.in-Ok.verdict
    c.is_unbroken.result never c.is_unbroken.ensures (c.in-Ok.ensures.verdict graphs)
