use Rattle.std.proofs.Common.{◌↔◌, ◌-◌, ◌++◌, ◌∙◌, List, ap, arith, refl, subst}
use Rattle.std.specs.Prelude.{IsTrue}
use Rattle.pam_policy.specs.declared.needs.event.StackEvent.{StackEvent}
use Rattle.pam_policy.specs.host.Stacks.{known_site}
use Rattle.pam_policy.specs.needs.Choices.{AreNeeded}
use Rattle.pam_policy.proofs.NeedsProofs.Steps.{fewest-all, fewest-start, fewest-step}
use Rattle.pam_policy.proofs.rules.site.Site.fewest.Goals as goal

pub loop-count-init : goal.loop-count-init
loop-count-init c = record {
  most = omega arith;
  fewest = λ graphs.
      fewest-start (known_site c.args.self.now) c.args.others.now c.args.some.now _ _ _ refl c.new.ensures.items c.new-2.ensures.items;
}

pub loop-count-preserved : goal.loop-count-preserved
loop-count-preserved c =
    let known = known_site c.args.self.now in
    let count = c.loop-count.count in
    let most = c.loop-count.invariant.most in
    let some = c.loop-count-test.true in
    let kept = c.loop-count.fewest.kept.items in
    let before = c.in_ok-before.before.items in
    let is_left = c.in_ok-is_left.is_left in
    record {
      most = omega (arith, most);
      fewest = λ graphs.
          fewest-step known c.args.others.now c.args.some.now count (count - 1) _ before kept c.loop-count.fewest.left.items _ _ is_left
          (omega (arith, some)) (omega (arith, some, most))
          (c.in_ok-before.ensures ∙ ap (λ (front : List StackEvent). c.args.others.now ++ front) c.split_at.ensures.front)
          (subst (λ (l : List StackEvent). IsTrue is_left ↔ AreNeeded known (before ++ l)) c.deref-in-loop-count.ensures.value
          (subst (λ (l : List StackEvent). IsTrue is_left ↔ AreNeeded known (l ++ c.deref-in-loop-count.result.now)) c.deref.ensures.value
          (c.in_ok-is_left.ensures graphs)))
          c.in_ok-add.ensures.kept c.in_ok-add.ensures.left (c.loop-count.invariant.fewest graphs);
    }

pub returns : goal.returns
returns c graphs =
    fewest-all (known_site c.args.self.now) c.args.others.now c.args.some.now c.loop-count.count _ _ (omega arith) (c.loop-count.invariant.fewest graphs)
