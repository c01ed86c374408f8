-- What the modules that are shown say of the two stacks.
use Rattle.std.proofs.Common.{◌≡◌, ◌∙◌, ◌⊎◌, ℕ, ◌<◌, ◌≤◌, Bool, true, false, cond, not, eqb, List, Option, Some, None}
use Rattle.std.proofs.Common.{ap, arith, filter, inl, inr, refl, subst, sym}
use Rattle.std.proofs.lemmas.Bool.{cases_Bool, cases_lt, eq-eqb, eqb-true, false≢true, not-true, not_from_false, or_cases, or_left, or_right}
use Rattle.std.proofs.lemmas.List.Kept.{AllPairs-filter}
use Rattle.std.specs.List.{Any, Contains, list_any, range_with_len}
use Rattle.std.specs.Option.{option_and_then, option_map_or}
use Rattle.pam_compare.specs.Matching.{partner_of}
use Rattle.pam_dispatch.specs.Runs.{Assignment}
use Rattle.pam_paths.proofs.Alike.{Member-codes, Member-filter, Member-filter_back, list_any_back, list_any_from}
use Rattle.pam_text.specs.Members.{Member}
use Rattle.pam_changes.specs.Asked.{AreInNewOrder, AreInOldOrder, AreModules, AreShownOnce, IsAsked, IsEitherAsked, IsNew, IsOld, IsOneToOne, Rise}
use Rattle.pam_changes.specs.Asked.{ShowOthers, new_number, number_alone, old_number}
use Rattle.pam_changes.specs.declared.steps.AskedModule.{AskedModule}
use Rattle.pam_changes.specs.declared.steps.AskedModule.TheVariants.{Both}
use Rattle.pam_changes.specs.Steps.{as_old, asked_modules, if_alike, is_number, is_shown, old_alone, one_with, shown_new}
use Rattle.pam_changes.proofs.Ordered.{Pairs, all-members, all-pairs, any-member, contains-member, member-contains, pairs-all, pairs-weaker, range-rises}
use Rattle.pam_changes.proofs.Showing.{IsLeft, as_new, pairs-merged, shown_as, shows-new, shows-old, shows-one}

some-number : (i j : ℕ) → Some i ≡ Some j → i ≡ j
some-number i j e = cc

no-number : (i : ℕ) → None ≡ Some i → ⊥
no-number i e = cc

listed : (n : ℕ) (numbers : List ℕ) → list_any (λ k. eqb k n) numbers ≡ true → Member n numbers
listed n numbers t =
    let one = list_any_back (λ k. eqb k n) numbers t in
    subst (λ k. Member k numbers) (eqb-true one.0 n one.2) one.1

listed-from : (n : ℕ) (numbers : List ℕ) → Member n numbers → list_any (λ k. eqb k n) numbers ≡ true
listed-from n numbers is = list_any_from (λ k. eqb k n) numbers n is (eq-eqb n n refl)

number-is : (n : ℕ) (other : Option ℕ) → is_number n other ≡ true → other ≡ Some n
number-is n None t = absurd (false≢true t)
number-is n (Some k) t = ap (λ (m : ℕ). Some m) (eqb-true k n t)

is-number : (n : ℕ) (other : Option ℕ) → other ≡ Some n → is_number n other ≡ true
is-number n other e = ap (is_number n) e ∙ eq-eqb n n refl

module _ (partners : List (Option ℕ)) (a b : Assignment) where
  -- A MODULE THAT IS ONE WITH ANOTHER is matched with it and answers alike
  one-is : (i j : ℕ) → one_with partners a b j ≡ Some i → (partner_of partners j ≡ Some i) × (a i ≡ b j)
  unfolding one_with
  one-is i j e = by-partner (partner_of partners j) e
    where
      by-test : (k : ℕ) (t : Bool) → eqb (a k) (b j) ≡ t → cond t (Some k) None ≡ Some i → (Some k ≡ Some i) × (a i ≡ b j)
      by-test k true t e = (e, ap a (sym (some-number k i e)) ∙ eqb-true (a k) (b j) t)
      by-test k false t e = absurd (no-number i e)

      by-partner : (p : Option ℕ) → option_and_then (if_alike partners a b j) p ≡ Some i → (p ≡ Some i) × (a i ≡ b j)
      by-partner None e = absurd (no-number i e)
      by-partner (Some k) e = by-test k (eqb (a k) (b j)) refl e

  one-from : (i j : ℕ) → partner_of partners j ≡ Some i → a i ≡ b j → one_with partners a b j ≡ Some i
  unfolding one_with
  one-from i j e same =
      ap (option_and_then (if_alike partners a b j)) e ∙ ap (λ (t : Bool). cond t (Some i) None) (eq-eqb (a i) (b j) same)

  -- how a module is shown that is one with another, or with none
  as-both : (i j : ℕ) → one_with partners a b j ≡ Some i → as_new partners a b j ≡ Both i j (b j)
  as-both i j e = ap (shown_as partners a b j) e

  module _ (old_asked new_asked : List ℕ) (modules : ℕ) where
    abbrev shown : List ℕ
    shown = shown_new partners a b old_asked new_asked modules

    abbrev alone : List ℕ
    alone = old_alone partners a b old_asked shown

    abbrev all : List AskedModule
    all = asked_modules partners a b old_asked new_asked modules

    -- the modules of the new stack that are shown
    shown-if : (j : ℕ) → 1 ≤ j → j ≤ modules → is_shown partners a b old_asked new_asked j ≡ true → Member j shown
    unfolding shown_new
    shown-if j first last t =
        Member-filter (is_shown partners a b old_asked new_asked) (range_with_len 1 modules) j
        (Member-codes 1 modules j first (omega (arith, last))) t

    shown-is : (j : ℕ) → Member j shown → is_shown partners a b old_asked new_asked j ≡ true
    unfolding shown_new
    shown-is j is = (Member-filter_back (is_shown partners a b old_asked new_asked) (range_with_len 1 modules) j is).1

    shown-rises : Pairs (λ i j. i < j) shown
    unfolding shown_new
    shown-rises =
        all-pairs (λ i j. i < j) (filter (is_shown partners a b old_asked new_asked) (range_with_len 1 modules))
        (AllPairs-filter (λ i j. i < j) (is_shown partners a b old_asked new_asked) (range_with_len 1 modules) (range-rises 1 modules))

    -- one of them is asked, or is one with a module that is
    IsShownFor : ℕ → Type 0
    IsShownFor j = Member j new_asked ⊎ ((i : ℕ) × (one_with partners a b j ≡ Some i) × Member i old_asked)

    shown-for : (j : ℕ) → Member j shown → IsShownFor j
    unfolding IsShownFor
    shown-for j is = elim (or_cases _ _ (shown-is j is)) [
      | inl t ↦ inl (listed j new_asked t)
      | inr t ↦ inr (by-one (one_with partners a b j) refl t)
    ]
      where
        by-one : (o : Option ℕ) → one_with partners a b j ≡ o → option_map_or (λ i. list_any (λ k. eqb k i) old_asked) o false ≡ true →
            (i : ℕ) × (one_with partners a b j ≡ Some i) × Member i old_asked
        by-one None e t = absurd (false≢true t)
        by-one (Some i) e t = (i, e, listed i old_asked t)

    shown-by-new : (j : ℕ) → 1 ≤ j → j ≤ modules → Member j new_asked → Member j shown
    shown-by-new j first last is = shown-if j first last (or_left _ _ (listed-from j new_asked is))

    shown-by-old : (i j : ℕ) → 1 ≤ j → j ≤ modules → one_with partners a b j ≡ Some i → Member i old_asked → Member j shown
    shown-by-old i j first last e is =
        shown-if j first last (or_right _ _
        (ap (λ (o : Option ℕ). option_map_or (λ i. list_any (λ k. eqb k i) old_asked) o false) e ∙ listed-from i old_asked is))

    -- the modules of the old stack that are one with none of these
    abbrev is_shared : ℕ → Bool
    is_shared n = list_any (λ other. is_number n (one_with partners a b other)) shown

    alone-if : (n : ℕ) → Member n old_asked → is_shared n ≡ false → Member n alone
    unfolding old_alone
    alone-if n is t = Member-filter (λ m. not (is_shared m)) old_asked n is (not_from_false (is_shared n) t)

    alone-asked : (n : ℕ) → Member n alone → Member n old_asked
    unfolding old_alone
    alone-asked n is = (Member-filter_back (λ m. not (is_shared m)) old_asked n is).0

    alone-apart : (n j : ℕ) → Member n alone → Member j shown → one_with partners a b j ≡ Some n → ⊥
    unfolding old_alone
    alone-apart n j is here e =
        let t = list_any_from (λ other. is_number n (one_with partners a b other)) shown j here (is-number n (one_with partners a b j) e) in
        false≢true (sym (not-true (is_shared n) (Member-filter_back (λ m. not (is_shared m)) old_asked n is).1) ∙ t)

    alone-rises : Rise old_asked → Pairs (λ i j. i < j) alone
    unfolding old_alone
    alone-rises rise =
        all-pairs (λ i j. i < j) (filter (λ m. not (is_shared m)) old_asked) (AllPairs-filter (λ i j. i < j) (λ m. not (is_shared m)) old_asked rise)

    -- EACH IS SHOWN
    each-old : (n : ℕ) → Contains old_asked n → Any (IsOld n (a n)) all
    each-old n is = elim (cases_Bool (is_shared n)) [
      | inl t ↦
          let one = list_any_back (λ other. is_number n (one_with partners a b other)) shown t in
          let e = number-is n (one_with partners a b one.0) one.2 in
          let same = as-both n one.0 e in
          any-member (IsOld n (a n)) all (as_new partners a b one.0) (shows-new partners a b alone shown one.0 one.1)
          (subst (IsOld n (a n)) (sym same) (refl, sym (one-is n one.0 e).1))
      | inr t ↦
          any-member (IsOld n (a n)) all (as_old a n) (shows-old partners a b alone shown n (alone-if n (contains-member old_asked n is) t)) (refl, refl)
    ]

    new-is : (j : ℕ) (o : Option ℕ) → IsNew j (b j) (shown_as partners a b j o)
    new-is j None = (refl, refl)
    new-is j (Some i) = (refl, refl)

    each-new : AreModules modules new_asked → (n : ℕ) → Contains new_asked n → Any (IsNew n (b n)) all
    each-new within n is =
        let at = subst (λ m. (1 ≤ m) × (m ≤ modules)) is.2 (within is.0 n is.1) in
        any-member (IsNew n (b n)) all (as_new partners a b n)
        (shows-new partners a b alone shown n (shown-by-new n at.0 at.1 (contains-member new_asked n is)))
        (new-is n (one_with partners a b n))

    as-one : (i j : ℕ) → 1 ≤ j → j ≤ modules → partner_of partners j ≡ Some i → a i ≡ b j → IsEitherAsked partners a b old_asked new_asked i j →
        Contains all (Both i j (b j))
    as-one i j first last e same asked =
        let one = one-from i j e same in
        let here : Member j shown = elim asked [
          | inl is ↦ shown-by-old i j first last one (contains-member old_asked i is)
          | inr is ↦ shown-by-new j first last (contains-member new_asked j is)
        ] in
        member-contains all (Both i j (b j)) (subst (λ m. Member m all) (as-both i j one) (shows-new partners a b alone shown j here))

    -- NO OTHER IS SHOWN
    new-asked : (j : ℕ) → Member j shown → IsAsked partners a b old_asked new_asked (as_new partners a b j)
    unfolding IsShownFor
    new-asked j here = by-one (one_with partners a b j) refl (shown-for j here)
      where
        by-one : (o : Option ℕ) → one_with partners a b j ≡ o → IsShownFor j → IsAsked partners a b old_asked new_asked (shown_as partners a b j o)
        by-one None e (inl is) = (member-contains new_asked j is, refl)
        by-one None e (inr one) = absurd (no-number one.0 (sym e ∙ one.1))
        by-one (Some i) e (inl is) =
            let m = one-is i j e in (m.0, m.1, refl, inr (member-contains new_asked j is))
        by-one (Some i) e (inr one) =
            let m = one-is i j e in
            let same : one.0 ≡ i = some-number one.0 i (sym one.1 ∙ e) in
            (m.0, m.1, refl, inl (member-contains old_asked i (subst (λ k. Member k old_asked) same one.2)))

    no-other : (asked : AskedModule) → Member asked all → IsAsked partners a b old_asked new_asked asked
    no-other asked is = elim (shows-one partners a b alone shown asked is) [
      | inl one ↦ subst (IsAsked partners a b old_asked new_asked) (sym one.2) (member-contains old_asked one.0 (alone-asked one.0 one.1), refl)
      | inr one ↦ subst (IsAsked partners a b old_asked new_asked) (sym one.2) (new-asked one.0 one.1)
    ]

    -- ONCE, AND IN ORDER
    old-of-new : (j i : ℕ) (o : Option ℕ) → old_number (shown_as partners a b j o) ≡ Some i → o ≡ Some i
    old-of-new j i None e = absurd (no-number i e)
    old-of-new j i (Some k) e = e

    new-of-new : (j i : ℕ) (o : Option ℕ) → new_number (shown_as partners a b j o) ≡ Some i → j ≡ i
    new-of-new j i None e = some-number j i e
    new-of-new j i (Some k) e = some-number j i e

    none-alone : (j i : ℕ) (o : Option ℕ) → number_alone (shown_as partners a b j o) ≡ Some i → ⊥
    none-alone j i None e = no-number i e
    none-alone j i (Some k) e = no-number i e

    left-after : (j i n : ℕ) (o : Option ℕ) → o ≡ Some i → IsLeft o n → i ≤ n
    left-after j i n None e left = absurd (no-number i e)
    left-after j i n (Some k) e left = let same = some-number k i e in omega (arith, same, left)

    module _ (matched : IsOneToOne partners) (rise : Rise old_asked) where
      old-once : Pairs ShowOthers all
      old-once =
          pairs-merged partners a b ShowOthers alone shown (alone-rises rise)
          (pairs-weaker (λ i j. i < j) _ alone
          (λ i j k l less n e f. let one = some-number i n e in let other = some-number j n f in omega (arith, one, other, less)) (alone-rises rise))
          (pairs-weaker (λ i j. i < j) _ shown
          (λ i j k l less n e f.
          let same = matched n i j (one-is n i (old-of-new i n _ e)).0 (one-is n j (old-of-new j n _ f)).0 in
          omega (arith, same, less)) shown-rises)
          (λ n j k l m e f. alone-apart n j k l (old-of-new j n _ (f ∙ sym e)))
          (λ n j k l left m e f. alone-apart n j k l (old-of-new j n _ (e ∙ sym f)))

      new-in-order : Pairs AreInNewOrder all
      new-in-order =
          pairs-merged partners a b AreInNewOrder alone shown (alone-rises rise)
          (pairs-weaker (λ i j. i < j) _ alone (λ i j k l less m n e f. absurd (no-number m e)) (alone-rises rise))
          (pairs-weaker (λ i j. i < j) _ shown
          (λ i j k l less m n e f. let one = new-of-new i m _ e in let other = new-of-new j n _ f in omega (arith, one, other, less)) shown-rises)
          (λ n j k l x y e f. absurd (no-number x e))
          (λ n j k l left x y e f. absurd (no-number y f))

      old-in-order : Pairs AreInOldOrder all
      old-in-order =
          pairs-merged partners a b AreInOldOrder alone shown (alone-rises rise)
          (pairs-weaker (λ i j. i < j) _ alone
          (λ i j k l less m n e f. let one = some-number i m e in let other = some-number j n f in omega (arith, one, other, less)) (alone-rises rise))
          (pairs-weaker (λ i j. i < j) _ shown (λ i j k l less m n e f. absurd (none-alone j n _ f)) shown-rises)
          (λ n j k l x y e f. absurd (none-alone j y _ f))
          (λ n j k l left x y e f.
          let one = old-of-new j x _ e in
          let same = some-number n y f in
          let low = left-after j x n _ one left in
          let apart : x ≡ n → ⊥ = λ is. alone-apart n j k l (one ∙ ap (λ (z : ℕ). Some z) is) in
          elim (cases_lt x n) [ inl less ↦ omega (arith, less, same) | inr more ↦ absurd (apart (omega (arith, more, low))) ])

      pub shown-once : AreModules modules new_asked → AreShownOnce partners a b old_asked new_asked modules all
      shown-once within = record {
        old = each-old;
        new = each-new within;
        no_other = all-members (IsAsked partners a b old_asked new_asked) all no-other;
        as_one = as-one;
        old_once = pairs-all ShowOthers all old-once;
        new_in_order = pairs-all AreInNewOrder all new-in-order;
        old_in_order = pairs-all AreInOldOrder all old-in-order;
      }
