-- The first usual code of a set, of one of its parts, and of a step.
use Rattle.std.proofs.Common.{◌≡◌, ◌<◌, ◌∙◌, ℕ, Bool, true, false, cond, eqb, eq-eqb, filter, List, [], ◌∷◌, map, Option, Some, None, ap, inl, inr, refl, subst, sym}
use Rattle.std.specs.List.{AllByRecursion, find}
use Rattle.std.specs.Prelude.{IfNone, IfSome, slice_get, slice_index_or}
use Rattle.std.proofs.lemmas.Bool.{cases_Bool, cases_eq, false≢true, ne_eqb}
use Rattle.pam_codes.specs.Code.{all_codes}
use Rattle.pam_codes.specs.Set.{IsCodeSet, is_in}
use Rattle.pam_dispatch.specs.Runs.{Assignment}
use Rattle.pam_compare.specs.declared.held.HeldAnswer.{HeldAnswer}
use Rattle.pam_compare.specs.declared.nodes.Way.{Way}
use Rattle.pam_compare.specs.Questions.{choices}
use Rattle.pam_compare.specs.Usual.{first_usual, usual_order}
use Rattle.pam_compare.specs.inner.Trails.{answers_on}
use Rattle.pam_compare.specs.inner.Ways.{IsFit, step_of}
use Rattle.pam_compare.proofs.Growing.{nothing, same-some}
use Rattle.pam_compare.proofs.Holding.{where-low}
use Rattle.pam_compare.proofs.Trails.{with-other, with-same}

module _ (p q : ℕ → Bool) where
  -- what is found is found by a narrower test that it passes
  find-narrow : (xs : List ℕ) (code : ℕ) → find p xs ≡ Some code → ((d : ℕ) → q d ≡ true → p d ≡ true) → q code ≡ true → find q xs ≡ Some code
  find-narrow [] code e less is = absurd (nothing code e)
  find-narrow (x ∷ xs) code e less is =
      elim (cases_Bool (p x)) [
        | inl t ↦
            let same : x ≡ code = same-some x code (sym (ap (λ (b : Bool). cond b (Some x) (find p xs)) t) ∙ e) in
            ap (λ (b : Bool). cond b (Some x) (find q xs)) (subst (λ (n : ℕ). q n ≡ true) (sym same) is) ∙ ap (λ (n : ℕ). Some n) same
        | inr f ↦ elim (cases_Bool (q x)) [
          | inl u ↦ absurd (false≢true (sym f ∙ less x u))
          | inr g ↦
              ap (λ (b : Bool). cond b (Some x) (find q xs)) g
              ∙ find-narrow xs code (sym (ap (λ (b : Bool). cond b (Some x) (find p xs)) f) ∙ e) less is
        ]
      ]

-- the first that passes a test
pub find-filter : (p : ℕ → Bool) (xs : List ℕ) → find p xs ≡ slice_get (filter p xs) 0
find-filter p [] = refl
find-filter p (x ∷ xs) = by (p x) (find-filter p xs)
  where
    by : (b : Bool) → find p xs ≡ slice_get (filter p xs) 0 → cond b (Some x) (find p xs) ≡ slice_get (cond b (x ∷ filter p xs) (filter p xs)) 0
    by true e = refl
    by false e = e

-- one more at the front
pub find-more : (p : ℕ → Bool) (n : ℕ) (xs : List ℕ) (r s : Option ℕ) → s ≡ cond (p n) (Some n) r → r ≡ find p xs → s ≡ find p (n ∷ xs)
find-more p n xs r s e is = e ∙ ap (λ (o : Option ℕ). cond (p n) (Some n) o) is

find-passes : (p : ℕ → Bool) (xs : List ℕ) (code : ℕ) → find p xs ≡ Some code → p code ≡ true
find-passes p [] code e = absurd (nothing code e)
find-passes p (x ∷ xs) code e =
    elim (cases_Bool (p x)) [
      | inl t ↦
          subst (λ (n : ℕ). p n ≡ true) (same-some x code (sym (ap (λ (b : Bool). cond b (Some x) (find p xs)) t) ∙ e)) t
      | inr f ↦ find-passes p xs code (sym (ap (λ (b : Bool). cond b (Some x) (find p xs)) f) ∙ e)
    ]

-- where nothing is found, nothing is found of the rest
find-rest : (p : ℕ → Bool) (x : ℕ) (xs : List ℕ) → find p (x ∷ xs) ≡ None → find p xs ≡ None
find-rest p x xs e =
    elim (cases_Bool (p x)) [
      | inl t ↦ absurd (nothing x (sym e ∙ ap (λ (b : Bool). cond b (Some x) (find p xs)) t))
      | inr f ↦ sym (ap (λ (b : Bool). cond b (Some x) (find p xs)) f) ∙ e
    ]

pub usual-member : (r : Option ℕ) (codes : List ℕ) → r ≡ first_usual codes → IfSome r (λ c. is_in c codes ≡ true)
unfolding first_usual
usual-member None codes is = tt
usual-member (Some code) codes is = find-passes (λ d. is_in d codes) usual_order code (sym is)

pub usual-low : (r : Option ℕ) (codes : List ℕ) → r ≡ first_usual codes → IsCodeSet codes → IfSome r (λ c. c < 31)
usual-low None codes is order = tt
usual-low (Some code) codes is order =
    where-low (λ c. is_in c codes) code (subst (λ (l : List ℕ). is_in code l ≡ true) order (usual-member (Some code) codes is))

empty-first : (codes : List ℕ) → slice_get codes 0 ≡ None → codes ≡ []
empty-first [] e = refl
empty-first (x ∷ codes) e = absurd (nothing x (sym e))

pub usual-none : (r : Option ℕ) (codes : List ℕ) → r ≡ first_usual codes → IsCodeSet codes → IfNone r (codes ≡ [])
unfolding first_usual usual_order
usual-none (Some code) codes is order = tt
usual-none None codes is order =
    let p : ℕ → Bool = λ d. is_in d codes in
    let rest : find p all_codes ≡ None =
    find-rest p 25 all_codes (find-rest p 9 (25 ∷ all_codes) (find-rest p 10 (9 ∷ 25 ∷ all_codes)
    (find-rest p 6 (10 ∷ 9 ∷ 25 ∷ all_codes) (find-rest p 7 (6 ∷ 10 ∷ 9 ∷ 25 ∷ all_codes) (find-rest p 0 (7 ∷ 6 ∷ 10 ∷ 9 ∷ 25 ∷ all_codes) (sym is)))))) in
    empty-first codes (ap (λ (l : List ℕ). slice_get l 0) order ∙ sym (find-filter p all_codes) ∙ rest)

-- the first usual code is that of each part that has it
pub first-narrow : (codes part : List ℕ) (code : ℕ) → first_usual codes ≡ Some code → ((d : ℕ) → is_in d part ≡ true → is_in d codes ≡ true) →
    is_in code part ≡ true → first_usual part ≡ Some code
unfolding first_usual
first-narrow codes part code e less is = find-narrow (λ d. is_in d codes) (λ d. is_in d part) usual_order code e less is

-- the answers of a trail are the first usual ones of those that can be chosen
pub chosen-on : (possible : List (List ℕ)) (base : Assignment) (name : ℕ) (trail : List Way) → AllByRecursion (IsFit possible) trail →
    first_usual (slice_index_or possible name all_codes) ≡ Some (base name) →
    first_usual (choices possible (map step_of trail) name) ≡ Some (answers_on base trail name)
unfolding answers_on choices
chosen-on possible base name [] fits first = first
chosen-on possible base name (w ∷ trail) fits first =
    let rest = choices possible (map step_of trail) name in
    elim (cases_eq name w.name) [
      | inl same ↦
          ap (λ (b : Bool). first_usual (cond b w.class rest)) (eq-eqb w.name name (sym same))
          ∙ fits.0.usual ∙ ap (λ (n : ℕ). Some n) (sym (with-same (answers_on base trail) w.name w.code name same))
      | inr other ↦
          let t : eqb w.name name ≡ false = ne_eqb w.name name (λ e. other (sym e)) in
          ap (λ (b : Bool). first_usual (cond b w.class rest)) t
          ∙ chosen-on possible base name trail fits.1 first
          ∙ ap (λ (n : ℕ). Some n) (sym (with-other (answers_on base trail) w.name w.code name other))
    ]
