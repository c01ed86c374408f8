use Rattle.std.proofs.Common.{◌↔◌, subst, sym}
use Rattle.std.specs.Prelude.{IsTrue}
use Rattle.pam_policy.specs.declared.host.idle.Idle.{Idle}
use Rattle.pam_policy.specs.declared.host.idle.Idle.TheVariants.{CannotHappen, CannotEnd}
use Rattle.pam_policy.specs.host.Idle.{CanBe}
use Rattle.pam_policy.specs.host.Stacks.{known_site, site_of, stacks_view}
use Rattle.pam_policy.specs.host.inner.Idle.{CanBeAt}
use Rattle.pam_policy.specs.text.Sentences.{sentence_view}
use Rattle.pam_policy.proofs.HostProofs.Among.{some-can}
use Rattle.pam_policy.proofs.RulesProofs.Lists.{ok-map}
use Rattle.pam_policy.proofs.host.idle.can_be_at.Goals as goal

pub returns-in-CannotHappen-clause-can : goal.returns-in-CannotHappen-clause-can
returns-in-CannotHappen-clause-can c graphs =
    let known = known_site c.in-Some.site.now in
    let sentence = sentence_view c.args.sentence.now in
    let site = site_of (stacks_view c.args.stacks.now) c.args.class in
    ok-map (λ can. IsTrue can ↔ CanBe CannotHappen known sentence) (λ can. IsTrue can ↔ CanBeAt c.args.way site sentence) c.can_happen.result
    (λ can h. subst (λ (way : Idle). IsTrue can ↔ CanBeAt way site sentence) (sym c.in-CannotHappen.is)
    (some-can CannotHappen known site sentence can c.in-Some.ensures.known h))
    (c.can_happen.ensures.can (graphs c.in-Some.site.now c.in-Some.ensures.there))

pub returns-in-CannotEnd-clause-can : goal.returns-in-CannotEnd-clause-can
returns-in-CannotEnd-clause-can c graphs =
    let known = known_site c.in-Some.site.now in
    let sentence = sentence_view c.args.sentence.now in
    let site = site_of (stacks_view c.args.stacks.now) c.args.class in
    ok-map (λ can. IsTrue can ↔ CanBe CannotEnd known sentence) (λ can. IsTrue can ↔ CanBeAt c.args.way site sentence) c.can_end.result
    (λ can h. subst (λ (way : Idle). IsTrue can ↔ CanBeAt way site sentence) (sym c.in-CannotEnd.is)
    (some-can CannotEnd known site sentence can c.in-Some.ensures.known h))
    (c.can_end.ensures.can (graphs c.in-Some.site.now c.in-Some.ensures.there))
