use Rattle.std.proofs.Common.{◌≡◌, ◌<◌, ◌∙◌, ℕ, List, [], ◌∷◌, ◌++◌, ap, append_assoc, arith, subst, sym}
use Rattle.std.proofs.lemmas.List.{append-nil}
use Rattle.std.proofs.lemmas.Option.{slice_get_within}
use Rattle.pam_compare.specs.declared.held.HeldAnswer.{HeldAnswer}
use Rattle.pam_compare.specs.declared.held_lists.Link.{Link}
use Rattle.pam_compare.specs.inner.HeldLists.{IsListed}
use Rattle.pam_compare.proofs.Growing.{same-some}
use Rattle.pam_compare.proofs.Lists.{listed-start, listed-step}
use Rattle.pam_compare.proofs.held_lists.HeldLists.answers.Goals as goal

pub loop-at-init : goal.loop-at-init
loop-at-init c = record {
  rest = c.requires.0;
  is_rest = c.requires.1;
  whole = subst (λ (l : List HeldAnswer). IsListed c.args.self.now.links.keys c.args.number (l ++ c.requires.0)) (sym c.in_ok-held.ensures) c.requires.1;
}

pub last-link-requires-clause-within : goal.last-link-requires-clause-within
last-link-requires-clause-within c =
    let links = c.args.self.now.links.keys in
    let step = listed-step links c.loop-at.at c.loop-at.invariant.rest c.loop-at-test.true c.loop-at.invariant.is_rest in
    slice_get_within links _ step.0 step.2

pub loop-at-smaller : goal.loop-at-smaller
loop-at-smaller c =
    let at = c.loop-at.at in
    let step = listed-step c.args.self.now.links.keys at c.loop-at.invariant.rest c.loop-at-test.true c.loop-at.invariant.is_rest in
    let same : c.last-link.result ≡ step.0 = same-some _ step.0 (sym c.last-link.ensures ∙ step.2) in
    subst (λ (x : Link). x.before < at) (sym same) step.3

pub loop-at-preserved : goal.loop-at-preserved
loop-at-preserved c =
    let inv = c.loop-at.invariant in
    let links = c.args.self.now.links.keys in
    let link = c.last-link.result in
    let step = listed-step links c.loop-at.at inv.rest c.loop-at-test.true inv.is_rest in
    let same : link ≡ step.0 = same-some link step.0 (sym c.last-link.ensures ∙ step.2) in
    let held = c.loop-at.held.items in
    let rest : inv.rest ≡ link.answer ∷ step.1 = step.5 ∙ ap (λ (x : Link). x.answer ∷ step.1) (sym same) in
    record {
      rest = step.1;
      is_rest = subst (λ (x : Link). IsListed links x.before step.1) (sym same) step.4;
      whole = subst (λ (l : List HeldAnswer). IsListed links c.args.number (l ++ step.1)) (sym c.in_ok-push.ensures.items)
          (subst (IsListed links c.args.number)
          (ap (λ (l : List HeldAnswer). held ++ l) rest ∙ sym (append_assoc held (link.answer ∷ []) step.1)) inv.whole);
    }

pub returns : goal.returns
returns c =
    let inv = c.loop-at.invariant in
    let links = c.args.self.now.links.keys in
    let zero : c.loop-at.at ≡ 0 = omega arith in
    let none : inv.rest ≡ [] = listed-start links inv.rest (subst (λ (n : ℕ). IsListed links n inv.rest) zero inv.is_rest) in
    subst (IsListed links c.args.number) (ap (λ (l : List HeldAnswer). c.loop-at.held.items ++ l) none ∙ append-nil c.loop-at.held.items) inv.whole
