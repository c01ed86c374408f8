use Rattle.std.proofs.Common.{◌≡◌, ◌<◌, ◌≤◌, ◌+◌, ◌∙◌, ◌++◌, ◌∷◌, [], List, ℕ, zero, suc, refl, ap, arith, inl, inr, length, subst, sym}
use Rattle.std.proofs.Math.ListN.{set, length-set}
use Rattle.std.proofs.lemmas.Bool.{cases_eq, cases_lt}
use Rattle.std.proofs.lemmas.List.{get_or-set_other, get_or-set_same, length_push}
use Rattle.pam_compare.specs.Names.{name_of}
use Rattle.pam_compare.specs.inner.Naming.{AreFound, AreLast}
use Rattle.pam_compare.proofs.naming.last_of.Goals as goal

none-zero : (xs : List ℕ) → xs ≡ [] → (name : ℕ) → name_of xs name ≡ 0
none-zero xs e name = ap (λ (l : List ℕ). name_of l name) e

push-zero : (xs : List ℕ) → ((name : ℕ) → name_of xs name ≡ 0) → (name : ℕ) → name_of (xs ++ 0 ∷ []) name ≡ 0
push-zero [] h zero = refl
push-zero [] h (suc name) = refl
push-zero (x ∷ xs) h zero = h 0
push-zero (x ∷ xs) h (suc name) = push-zero xs (λ n. h (suc n)) name

pub loop-init : goal.loop-init
loop-init c = record { count = ap (λ (l : List ℕ). length l) c.new-last.ensures.items; zero = none-zero _ c.new-last.ensures.items }

pub loop-preserved : goal.loop-preserved
loop-preserved c =
    let inv = c.loop.invariant in
    record {
      count = ap (λ (l : List ℕ). length l) c.in_ok-push.ensures.items ∙ length_push c.loop.last.items 0 ∙ ap (λ n. n + 1) inv.count;
      zero = λ name. ap (λ (l : List ℕ). name_of l name) c.in_ok-push.ensures.items ∙ push-zero c.loop.last.items inv.zero name;
    }

pub loop-number-init : goal.loop-number-init
loop-number-init c = record {
  count = omega (arith, c.loop.invariant.count);
  rising = λ k positive below inside. absurd (omega (arith, positive, below));
  found = λ name positive. absurd (omega (arith, positive, c.loop.invariant.zero name));
}

pub loop-number-preserved : goal.loop-number-preserved
loop-number-preserved c =
    let inv = c.loop-number.invariant in
    let last = c.loop-number.last.items in
    let number = c.loop-number.number in
    let names = c.args.names.now in
    let at = name_of names number in
    let below_count = c.requires number (omega arith) (omega arith) in
    let within : at < length last = omega (arith, below_count, inv.count) in
    let same_length : length (set last at number) ≡ length last = simp length-set in record {
      count = same_length ∙ inv.count;
      rising = λ k positive below inside.
          let most : k ≤ number = omega arith in
          elim (cases_eq (name_of names k) at) [
            | inl same ↦ subst (λ (n : ℕ). k ≤ n) (sym (ap (name_of (set last at number)) same ∙ get_or-set_same last at number 0 within)) most
            | inr other ↦ subst (λ (n : ℕ). k ≤ n) (sym (get_or-set_other last at (name_of names k) number 0 other))
                (elim (cases_lt k number) [
                  | inl earlier ↦ inv.rising k positive earlier inside
                  | inr late ↦ let is : k ≡ number = omega arith in absurd (other (ap (name_of names) is))
                ])
          ];
      found = λ name positive. elim (cases_eq name at) [
        | inl same ↦
            let is : name_of (set last at number) name ≡ number = ap (name_of (set last at number)) same ∙ get_or-set_same last at number 0 within in
            (omega (arith, is), ap (name_of names) is ∙ sym same)
        | inr other ↦
            let is : name_of (set last at number) name ≡ name_of last name = get_or-set_other last at name number 0 other in
            let was = inv.found name (omega (arith, positive, is)) in
            (subst (λ (n : ℕ). n < length names) (sym is) was.0, ap (name_of names) is ∙ was.1)
      ];
    }

pub returns-clause-found : goal.returns-clause-found
unfolding AreFound
returns-clause-found c name positive = c.loop-number.invariant.found name positive

pub returns-clause-last : goal.returns-clause-last
unfolding AreLast
returns-clause-last c k positive below = c.loop-number.invariant.rising k positive (omega arith) below
