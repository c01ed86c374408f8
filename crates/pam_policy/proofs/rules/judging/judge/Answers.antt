use Rattle.std.proofs.Common.{subst, sym}
use Rattle.pam_paths.specs.Known.{may_answer}
use Rattle.pam_policy.specs.declared.text.sentence.Sentence.{Sentence}
use Rattle.pam_policy.specs.rules.Judging.{SaysVerdict}
use Rattle.pam_policy.specs.rules.Site.{site_view}
use Rattle.pam_policy.specs.text.Lists.{events_view}
use Rattle.pam_policy.specs.text.Sentences.{Never, Can, Before, condition_view, sentence_view}
use Rattle.pam_policy.proofs.RulesProofs.Judging.{before-verdict, can-verdict, never-verdict}
use Rattle.pam_policy.proofs.rules.judging.judge.Goals as goal

pub returns-in_ok-found-in-Never-clause-verdict : goal.returns-in_ok-found-in-Never-clause-verdict
returns-in_ok-found-in-Never-clause-verdict c of =
    let site = site_view c.args.site.now in
    let allows = may_answer c.args.site.now.known.now in
    let condition = condition_view c.in-Never.condition in
    subst (λ (s : Sentence). SaysVerdict allows site (sentence_view s) c.holds_unless.result) (sym c.in-Never.is)
    (subst (SaysVerdict allows site (Never condition)) (sym c.holds_unless.ensures)
    (never-verdict allows site condition c.in_ok-found-in-Never.found (c.in_ok-found-in-Never.ensures.first of)))

pub returns-in_ok-found-in-Can-clause-verdict : goal.returns-in_ok-found-in-Can-clause-verdict
returns-in_ok-found-in-Can-clause-verdict c of =
    let site = site_view c.args.site.now in
    let allows = may_answer c.args.site.now.known.now in
    let condition = condition_view c.in-Can.condition in
    subst (λ (s : Sentence). SaysVerdict allows site (sentence_view s) c.shown_by.result) (sym c.in-Can.is)
    (subst (SaysVerdict allows site (Can condition)) (sym c.shown_by.ensures)
    (can-verdict allows site condition c.in_ok-found-in-Can.found (c.in_ok-found-in-Can.ensures.first of)))

pub returns-in_ok-found-in-Before-clause-verdict : goal.returns-in_ok-found-in-Before-clause-verdict
returns-in_ok-found-in-Before-clause-verdict c of =
    let site = site_view c.args.site.now in
    let allows = may_answer c.args.site.now.known.now in
    let first = events_view c.in-Before.first in
    let others = events_view c.in-Before.others in
    subst (λ (s : Sentence). SaysVerdict allows site (sentence_view s) c.holds_unless-in-Before.result) (sym c.in-Before.is)
    (subst (SaysVerdict allows site (Before first others)) (sym c.holds_unless-in-Before.ensures)
    (before-verdict allows site first others c.in_ok-found-in-Before.found (c.in_ok-found-in-Before.ensures of)))
