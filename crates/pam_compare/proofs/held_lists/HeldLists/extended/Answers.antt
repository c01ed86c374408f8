use Rattle.std.proofs.Common.{◌≡◌, ◌+◌, ◌-◌, ◌∙◌, ◌∷◌, ◌++◌, ℕ, List, suc, ap, arith, drop, get_or, length, subst, sym}
use Rattle.std.proofs.Math.Seq.{drop-cons}
use Rattle.pam_compare.specs.declared.held.HeldAnswer.{HeldAnswer}
use Rattle.pam_compare.specs.inner.HeldLists.{IsListed}
use Rattle.pam_compare.proofs.Growing.{keeps-both, keeps-same}
use Rattle.pam_compare.proofs.Lists.{listed-within}
use Rattle.pam_compare.proofs.Writing.{drop-past}
use Rattle.pam_compare.proofs.held_lists.HeldLists.extended.Goals as goal

pub loop-back-init : goal.loop-back-init
loop-back-init c =
    let latest = c.args.latest.now in
    record {
      keeps = keeps-same _;
      links = λ held are is. are;
      listed = λ held are is. subst (λ (l : List HeldAnswer). IsListed c.args.self.now.links.keys c.args.before (l ++ held))
          (sym (drop-past latest (length latest - 0) (omega arith))) is;
    }

pub loop-back-preserved : goal.loop-back-preserved
loop-back-preserved c =
    let inv = c.loop-back.invariant in
    let step = c.in_ok-number.ensures in
    let latest = c.args.latest.now in
    let count = length latest in
    let back = c.loop-back.back in
    let answer = c.index-latest-index.result in
    let at : ℕ = count - 1 - back in
    let is_at : answer ≡ get_or latest at answer = c.index-latest-index.is in
    let here : drop at latest ≡ answer ∷ drop (suc at) latest =
    drop-cons latest at answer (omega arith) ∙ ap (λ (x : HeldAnswer). x ∷ drop (suc at) latest) (sym is_at) in
    let later : suc at ≡ count - back = omega arith in
    let next : count - (back + 1) ≡ at = omega arith in
    record {
      keeps = keeps-both _ _ _ inv.keeps step.keeps;
      links = λ held are is. step.links (inv.links held are is) (listed-within _ _ _ (inv.listed held are is));
      listed = λ held are is.
          subst (λ (l : List HeldAnswer). IsListed c.with.new.self.links.keys c.in_ok-number.number (l ++ held))
          (sym (ap (λ (m : ℕ). drop m latest) next ∙ here ∙ ap (λ (m : ℕ). answer ∷ drop m latest) later))
          (step.listed _ (inv.links held are is) (inv.listed held are is));
    }

pub returns-clause-links : goal.returns-clause-links
returns-clause-links c held are is = c.loop-back.invariant.links held are is

pub returns-clause-listed : goal.returns-clause-listed
returns-clause-listed c held are is =
    let latest = c.args.latest.now in
    let none : length latest - c.loop-back.back ≡ 0 = omega arith in
    subst (λ (m : ℕ). IsListed c.loop-back.self.links.keys c.loop-back.number (drop m latest ++ held)) none (c.loop-back.invariant.listed held are is)
