use Rattle.std.proofs.Common.{◌↔◌, ◌∙◌, false, subst, sym, true}
use Rattle.std.specs.Prelude.{IfOk, IsTrue, option_map}
use Rattle.pam_paths.specs.Known.{may_answer}
use Rattle.pam_policy.specs.declared.text.sentence.Sentence.{Sentence}
use Rattle.pam_policy.specs.rules.Idle.{CanHappen}
use Rattle.pam_policy.specs.rules.Site.{site_view}
use Rattle.pam_policy.specs.rules.inner.Looking.{CanBeMet, with_alone}
use Rattle.pam_policy.specs.rules.inner.Marking.{part_view}
use Rattle.pam_policy.specs.text.Sentences.{Never, Can, condition_view, sentence_view}
use Rattle.pam_policy.proofs.RulesProofs.Idle.{can-met, iff-same, met-can, met-never, never-met}
use Rattle.pam_policy.proofs.RulesProofs.Judging.{parts-of}
use Rattle.pam_policy.proofs.RulesProofs.Lists.{ok-map}
use Rattle.pam_policy.proofs.rules.idle.can_happen.Goals as goal

pub returns-in-Never-clause-can : goal.returns-in-Never-clause-can
returns-in-Never-clause-can c of =
    let site = site_view c.args.site.now in
    let allows = may_answer c.args.site.now.known.now in
    let condition = c.in-Never.condition in
    let part = option_map part_view c.part_of.result in
    let is = c.part_of.ensures ∙ parts-of false condition.with in
    subst (λ (s : Sentence). IfOk c.part_can_happen.result (λ can. IsTrue can ↔ CanHappen allows site (sentence_view s))) (sym c.in-Never.is)
    (ok-map (λ can. IsTrue can ↔ CanBeMet allows site (with_alone part)) (λ can. IsTrue can ↔ CanHappen allows site (Never (condition_view condition)))
    c.part_can_happen.result
    (λ can h. iff-same h (met-never allows site (condition_view condition) part is) (never-met allows site (condition_view condition) part is))
    (c.part_can_happen.ensures.can of))

pub returns-in-Can-clause-can : goal.returns-in-Can-clause-can
returns-in-Can-clause-can c of =
    let site = site_view c.args.site.now in
    let allows = may_answer c.args.site.now.known.now in
    let condition = c.in-Can.condition in
    let part = option_map part_view c.part_of-in-Can.result in
    let is = c.part_of-in-Can.ensures ∙ parts-of true condition.with in
    subst (λ (s : Sentence). IfOk c.part_can_happen-in-Can.result (λ can. IsTrue can ↔ CanHappen allows site (sentence_view s))) (sym c.in-Can.is)
    (ok-map (λ can. IsTrue can ↔ CanBeMet allows site (with_alone part)) (λ can. IsTrue can ↔ CanHappen allows site (Can (condition_view condition)))
    c.part_can_happen-in-Can.result
    (λ can h. iff-same h (met-can allows site (condition_view condition) part is) (can-met allows site (condition_view condition) part is))
    (c.part_can_happen-in-Can.ensures.can of))
