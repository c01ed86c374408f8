-- Classes of codes, computed part by part of a control.
use Rattle.std.proofs.Common.{◌≡◌, ◌≢◌, ℕ, ◌+◌, ◌<◌, ◌≤◌, ◌==◌, ◌&&◌, ◌||◌, Bool, true, false, not, List, [], ◌∷◌, cond, refl, sym, ◌∙◌, ap, subst}
use Rattle.std.proofs.Common.{inl, inr, arith, length, take, get_or, zero, suc, Option, Some, None}
use Rattle.std.specs.Prelude.{filter, slice_get}
use Rattle.std.specs.List.{list_any, range_with_len}
use Rattle.std.proofs.lemmas.Bool.{and_from, and_parts, cases_Bool, cases_eq, cond-false, cond-true, eq-eqb, eqb-true, false≢true, ne_eqb, or_cases, or_left}
use Rattle.std.proofs.lemmas.Bool.{or_right}
use Rattle.std.proofs.lemmas.List.{take_all}
use Rattle.std.proofs.lemmas.List.Folds.{list_any_more, list_any-from_Any}
use Rattle.std.specs.Prelude.{IfSome}
use Rattle.pam_codes.specs.declared.parts.Part.{Part}
use Rattle.pam_codes.specs.Code.{all_codes}
use Rattle.pam_codes.specs.Parts.{IsPart, IsParts}
use Rattle.pam_codes.specs.Set.{IsCodeSet, codes_where, is_in}
use Rattle.pam_codes.specs.inner.SetBits.{is_in-codes_where, codes_where-same}
use Rattle.pam_dispatch.specs.declared.step.Outcome.{Outcome}
use Rattle.pam_dispatch.specs.Alike.{looks_at_code}
use Rattle.pam_dispatch.specs.Runs.{Ask, outcome_of}
use Rattle.pam_text.specs.Members.{Member}
use Rattle.pam_paths.specs.Classes.{class_at, least, same_outcome}
use Rattle.pam_paths.proofs.Alike.{list_any_back, list_any_from, Member-codes_back, Member-filter_back}
use Rattle.pam_paths.proofs.Alike.{same_outcome-true}
use Rattle.pam_paths.proofs.OneAction.{one_outcome, own_status}
use Rattle.pam_paths.proofs.Sets.{same_tests}

-- SETS

-- a code is in a list if it is a member
pub Member-is_in : (codes : List ℕ) (c : ℕ) → is_in c codes ≡ true → Member c codes
Member-is_in codes c h =
    let w = list_any_back (λ k. k == c) codes h in
    subst (λ (x : ℕ). Member x codes) (eqb-true w.0 c w.2) w.1

pub is_in-Member : (codes : List ℕ) (c : ℕ) → Member c codes → is_in c codes ≡ true
is_in-Member codes c h = list_any_from (λ k. k == c) codes c h (eq-eqb c c refl)

-- the first code of a list
pub first-in : (codes : List ℕ) (c : ℕ) → slice_get codes 0 ≡ Some c → is_in c codes ≡ true
first-in [] c h = absurd (let x : ⊥ = cc in x)
first-in (d ∷ codes) c h = let e : d ≡ c = cc in or_left (d == c) _ (eq-eqb d c e)

pub first-inside : (codes : List ℕ) (found : Option ℕ) → found ≡ slice_get codes 0 → IfSome found (λ code. is_in code codes ≡ true)
first-inside codes None e = tt
first-inside codes (Some c) e = first-in codes c (sym e)

pub filled-first : (codes : List ℕ) → 0 < length codes → slice_get codes 0 ≡ None → ⊥
filled-first [] h e = omega (arith, h)
filled-first (d ∷ codes) h e = let x : ⊥ = cc in x

pub first-least : (codes : List ℕ) (c : ℕ) → slice_get codes 0 ≡ Some c → least codes ≡ c
first-least [] c h = absurd (let x : ⊥ = cc in x)
first-least (d ∷ codes) c h = cc

pub none-empty : (codes : List ℕ) → slice_get codes 0 ≡ None → codes ≡ []
none-empty [] h = refl
none-empty (d ∷ codes) h = absurd (let x : ⊥ = cc in x)

-- a member of a set is a code
pub code_low : (codes : List ℕ) (c : ℕ) → IsCodeSet codes → Member c codes → c < 31
unfolding all_codes
code_low codes c set h =
    let k = Member-filter_back (λ d. is_in d codes) (range_with_len 0 31) c (subst (λ (x : List ℕ). Member c x) set h) in
    let b = Member-codes_back 0 31 c k.0 in
    omega (arith, b.1)

pub nothing_passes : (none : List ℕ) (test : ℕ → Bool) → none ≡ [] → ((d : ℕ) → d < 31 → test d ≡ false) → none ≡ codes_where test
unfolding all_codes
nothing_passes none test e h = e ∙ codes_where-same (λ d. false) test (λ d l. sym (h d l))

filter-gone : (c : ℕ) (test : ℕ → Bool) (first n : ℕ) → c < first → filter (λ d. (d == c) && test d) (range_with_len first n) ≡ []
filter-gone c test first zero low = refl
filter-gone c test first (suc n) low =
    cond-false ((first == c) && test first) _ _ (ap (λ (b : Bool). b && test first) (ne_eqb first c (λ e. omega arith)))
    ∙ filter-gone c test (first + 1) n (omega arith)

filter-one : (c : ℕ) (test : ℕ → Bool) (first n : ℕ) → test c ≡ true → first ≤ c → c < first + n →
    filter (λ d. (d == c) && test d) (range_with_len first n) ≡ c ∷ []
filter-one c test first zero t low high = absurd (omega arith)
filter-one c test first (suc n) t low high = elim (cases_eq first c) [
  | inl e ↦
      cond-true ((first == c) && test first) _ _ (and_from (first == c) (test first) (eq-eqb first c e) (ap test e ∙ t))
      ∙ ap (λ (x : List ℕ). first ∷ x) (filter-gone c test (first + 1) n (omega arith)) ∙ ap (λ (x : ℕ). x ∷ []) e
  | inr ne ↦
      cond-false ((first == c) && test first) _ _ (ap (λ (b : Bool). b && test first) (ne_eqb first c ne))
      ∙ filter-one c test (first + 1) n t (omega arith) (omega arith)
]

-- the set of a code alone
pub one_passes : (one : List ℕ) (c : ℕ) (test : ℕ → Bool) → one ≡ c ∷ [] → c < 31 → test c ≡ true → one ≡ codes_where (λ d. (d == c) && test d)
unfolding all_codes
one_passes one c test e low t = e ∙ sym (filter-one c test 0 31 t (omega arith) (omega arith))

pub one_fails : (none : List ℕ) (c : ℕ) (test : ℕ → Bool) → none ≡ [] → test c ≡ false → none ≡ codes_where (λ d. (d == c) && test d)
one_fails none c test e f = nothing_passes none (λ d. (d == c) && test d) e (λ d low. elim (cases_Bool (d == c)) [
  | inl t ↦ ap (λ (b : Bool). b && test d) t ∙ ap test (eqb-true d c t) ∙ f
  | inr k ↦ ap (λ (b : Bool). b && test d) k
])

-- CODES ALIKE

module _ (ask : Ask) (o : Outcome) where
  abbrev leads : ℕ → Bool
  leads d = same_outcome o (outcome_of ask d)

  module _ (part : Part) (is : IsPart ask.control part) where
    abbrev alike : ℕ → Bool
    alike d = is_in d part.codes && leads d

    -- if the action looks at the code
    pub alike-looking : (s : ℕ) (told other found : List ℕ) → looks_at_code part.action ask.state ≡ true → s ≡ o.state.status →
        told ≡ codes_where (λ d. (d == s) && alike d) → other ≡ codes_where (λ d. (d == 25) && alike d) →
        found ≡ codes_where (λ d. is_in d told || is_in d other) → found ≡ codes_where alike
    alike-looking s told other found looks status t u is_found =
        is_found ∙ codes_where-same (λ d. is_in d told || is_in d other) alike (λ d low.
        let in_told : is_in d told ≡ ((d == s) && alike d) = ap (is_in d) t ∙ is_in-codes_where (λ x. (x == s) && alike x) d low in
        let in_other : is_in d other ≡ ((d == 25) && alike d) = ap (is_in d) u ∙ is_in-codes_where (λ x. (x == 25) && alike x) d low in
        same_tests (is_in d told || is_in d other) (alike d)
        (λ h. elim (or_cases (is_in d told) (is_in d other) h) [
          | inl k ↦ (and_parts (d == s) (alike d) (sym in_told ∙ k)).1
          | inr k ↦ (and_parts (d == 25) (alike d) (sym in_other ∙ k)).1
        ])
        (λ h.
        let parts = and_parts (is_in d part.codes) (leads d) h in
        elim (cases_eq d 25) [
          | inl e ↦ or_right (is_in d told) (is_in d other) (in_other ∙ and_from (d == 25) (alike d) (eq-eqb d 25 e) h)
          | inr ne ↦
              let own : (outcome_of ask d).state.status ≡ d = own_status ask part.action d (is.acts d parts.0) looks ne in
              let same : o ≡ outcome_of ask d = same_outcome-true o (outcome_of ask d) parts.1 in
              let at : d ≡ s = sym (status ∙ ap (λ (x : Outcome). x.state.status) same ∙ own) in
              or_left (is_in d told) (is_in d other) (in_told ∙ and_from (d == s) (alike d) (eq-eqb d s at) h)
        ]))

    -- if it does not, all codes have the outcome of the first
    leads-first : (r d : ℕ) → looks_at_code part.action ask.state ≡ false → slice_get part.codes 0 ≡ Some r →
        is_in d part.codes ≡ true → leads d ≡ leads r
    leads-first r d looks first inside =
        ap (same_outcome o) (one_outcome ask part.action d r (is.acts d inside) (is.acts r (first-in part.codes r first)) looks)

    pub alike-all : (r : ℕ) → looks_at_code part.action ask.state ≡ false → slice_get part.codes 0 ≡ Some r →
        leads r ≡ true → part.codes ≡ codes_where alike
    alike-all r looks first t =
        is.set ∙ codes_where-same (λ d. is_in d part.codes) alike (λ d low.
        same_tests (is_in d part.codes) (alike d)
        (λ h. and_from (is_in d part.codes) (leads d) h (leads-first r d looks first h ∙ t))
        (λ h. (and_parts (is_in d part.codes) (leads d) h).0))

    pub alike-none : (r : ℕ) (none : List ℕ) → looks_at_code part.action ask.state ≡ false → slice_get part.codes 0 ≡ Some r →
        leads r ≡ false → none ≡ [] → none ≡ codes_where alike
    alike-none r none looks first f e = nothing_passes none alike e (λ d low.
        elim (cases_Bool (alike d)) [
          | inl t ↦
              let parts = and_parts (is_in d part.codes) (leads d) t in
              absurd (false≢true (sym f ∙ sym (leads-first r d looks first parts.0) ∙ parts.1))
          | inr k ↦ k
        ])

    -- if all codes of the part are among codes of which none leads there
    pub alike-seen : (seen rest none : List ℕ) → rest ≡ codes_where (λ d. is_in d part.codes && not (is_in d seen)) → rest ≡ [] → none ≡ [] →
        ((d : ℕ) → d < 31 → is_in d seen ≡ true → leads d ≡ false) → none ≡ codes_where alike
    alike-seen seen rest none is empty e other = nothing_passes none alike e (λ d low.
        elim (cases_Bool (is_in d part.codes)) [
          | inr f ↦ ap (λ (b : Bool). b && leads d) f
          | inl t ↦
              elim (cases_Bool (is_in d seen)) [
                | inl s ↦ ap (λ (b : Bool). is_in d part.codes && b) (other d low s) ∙ ap (λ (b : Bool). b && false) t
                | inr n ↦
                    absurd (false≢true (sym (ap (is_in d) empty) ∙ ap (is_in d) is
                    ∙ is_in-codes_where (λ x. is_in x part.codes && not (is_in x seen)) d low
                    ∙ and_from (is_in d part.codes) (not (is_in d seen)) t (ap not n)))
              ]
        ])

  -- THE CLASS, part by part
  both : (a b t : Bool) → ((a && t) || (b && t)) ≡ ((a || b) && t)
  both true true true = refl
  both true true false = refl
  both true false true = refl
  both true false false = refl
  both false true true = refl
  both false true false = refl
  both false false true = refl
  both false false false = refl

  abbrev holds : ℕ → Part → Bool
  holds d part = is_in d part.codes

  pub class-none : (none : List ℕ) (parts : List Part) → none ≡ [] → none ≡ codes_where (λ d. list_any (holds d) (take 0 parts) && leads d)
  class-none none parts e = nothing_passes none (λ d. list_any (holds d) (take 0 parts) && leads d) e (λ d low. refl)

  pub class-more : (parts : List Part) (i : ℕ) (part : Part) (old more new : List ℕ) → i < length parts → part ≡ get_or parts i part →
      old ≡ codes_where (λ d. list_any (holds d) (take i parts) && leads d) → more ≡ codes_where (λ d. is_in d part.codes && leads d) →
      new ≡ codes_where (λ d. is_in d old || is_in d more) → new ≡ codes_where (λ d. list_any (holds d) (take (i + 1) parts) && leads d)
  class-more parts i part old more new l at was is new_is =
      new_is ∙ codes_where-same (λ d. is_in d old || is_in d more) (λ d. list_any (holds d) (take (i + 1) parts) && leads d) (λ d low.
      let here : Bool = holds d part in
      let before : Bool = list_any (holds d) (take i parts) in
      let in_old : is_in d old ≡ (before && leads d) = ap (is_in d) was ∙ is_in-codes_where (λ x. list_any (holds x) (take i parts) && leads x) d low in
      let in_more : is_in d more ≡ (here && leads d) = ap (is_in d) is ∙ is_in-codes_where (λ x. is_in x part.codes && leads x) d low in
      ap (λ (b : Bool). b || is_in d more) in_old ∙ ap (λ (b : Bool). (before && leads d) || b) in_more
      ∙ both before here (leads d)
      ∙ ap (λ (p : Part). (before || holds d p) && leads d) at
      ∙ ap (λ (b : Bool). b && leads d) (sym (list_any_more (holds d) parts i part l)))

  pub class-all : (parts : List Part) (i : ℕ) (class : List ℕ) → IsParts ask.control parts → length parts ≤ i →
      class ≡ codes_where (λ d. list_any (holds d) (take i parts) && leads d) → class ≡ class_at ask o
  unfolding class_at
  class-all parts i class is long was =
      was ∙ codes_where-same (λ d. list_any (holds d) (take i parts) && leads d) leads (λ d low.
      ap (λ (ps : List Part). list_any (holds d) ps && leads d) (take_all i parts long)
      ∙ ap (λ (b : Bool). b && leads d) (list_any-from_Any (holds d) parts (is.each_code d low)))

-- THE LEAST CODE OF A CLASS IN PLACE OF ITS CODES

module _ (codes class : List ℕ) where
  abbrev wanted : ℕ → Bool
  wanted d = cond (is_in d class) ((least class == d) && list_any (λ k. is_in k codes) class) (is_in d codes)

  abbrev outside : ℕ → Bool
  outside d = is_in d codes && not (is_in d class)

  pub least-put : (c : ℕ) (rest new one : List ℕ) → slice_get class 0 ≡ Some c → list_any (λ k. is_in k codes) class ≡ true →
      rest ≡ codes_where outside → one ≡ c ∷ [] → new ≡ codes_where (λ d. is_in d rest || is_in d one) → new ≡ codes_where wanted
  least-put c rest new one first some r u is =
      is ∙ codes_where-same (λ d. is_in d rest || is_in d one) wanted (λ d low.
      let in_rest : is_in d rest ≡ outside d = ap (is_in d) r ∙ is_in-codes_where outside d low in
      let in_one : is_in d one ≡ (c == d) = ap (is_in d) u ∙ or_false (c == d) in
      let head : least class ≡ c = first-least class c first in
      ap (λ (b : Bool). b || is_in d one) in_rest ∙ ap (λ (b : Bool). outside d || b) in_one
      ∙ elim (cases_Bool (is_in d class)) [
        | inl t ↦
            ap (λ (b : Bool). (is_in d codes && not b) || (c == d)) t
            ∙ and_false (is_in d codes) (c == d)
            ∙ sym (and_true (c == d) (list_any (λ k. is_in k codes) class) some)
            ∙ ap (λ (x : ℕ). (x == d) && list_any (λ k. is_in k codes) class) (sym head)
            ∙ sym (cond-true (is_in d class) ((least class == d) && list_any (λ k. is_in k codes) class) (is_in d codes) t)
        | inr f ↦
            let apart : c ≢ d = λ e. false≢true (sym f ∙ ap (λ (x : ℕ). is_in x class) (sym e) ∙ first-in class c first) in
            ap (λ (b : Bool). (is_in d codes && not b) || (c == d)) f
            ∙ ap (λ (b : Bool). (is_in d codes && true) || b) (ne_eqb c d apart)
            ∙ or_false (is_in d codes && true) ∙ and_both (is_in d codes)
            ∙ sym (cond-false (is_in d class) ((least class == d) && list_any (λ k. is_in k codes) class) (is_in d codes) f)
      ])
    where
      or_false : (b : Bool) → (b || false) ≡ b
      or_false true = refl
      or_false false = refl

      and_both : (b : Bool) → (b && true) ≡ b
      and_both true = refl
      and_both false = refl

      and_false : (b x : Bool) → ((b && false) || x) ≡ x
      and_false true x = refl
      and_false false x = refl

      and_true : (a b : Bool) → b ≡ true → (a && b) ≡ a
      and_true true b e = e
      and_true false b e = refl

  pub none-put : (new : List ℕ) → list_any (λ k. is_in k codes) class ≡ false → new ≡ codes_where outside → new ≡ codes_where wanted
  none-put new none is =
      is ∙ codes_where-same outside wanted (λ d low. elim (cases_Bool (is_in d class)) [
        | inl t ↦
            ap (λ (b : Bool). is_in d codes && not b) t
            ∙ and_none (is_in d codes) (least class == d) (list_any (λ k. is_in k codes) class) none
            ∙ sym (cond-true (is_in d class) ((least class == d) && list_any (λ k. is_in k codes) class) (is_in d codes) t)
        | inr f ↦
            ap (λ (b : Bool). is_in d codes && not b) f ∙ and_whole (is_in d codes)
            ∙ sym (cond-false (is_in d class) ((least class == d) && list_any (λ k. is_in k codes) class) (is_in d codes) f)
      ])
    where
      and_none : (a b c : Bool) → c ≡ false → (a && false) ≡ (b && c)
      and_none true true c e = sym e
      and_none true false c e = refl
      and_none false true c e = sym e
      and_none false false c e = refl

      and_whole : (b : Bool) → (b && true) ≡ b
      and_whole true = refl
      and_whole false = refl

  pub empty-put : (new : List ℕ) → slice_get class 0 ≡ None → new ≡ codes_where outside → new ≡ codes_where wanted
  empty-put new none is = none-put new (ap (list_any (λ k. is_in k codes)) (none-empty class none)) is

  -- whether a code is in both
  pub meets-some : IsCodeSet class → ((c : ℕ) × (c < 31) × (is_in c codes ≡ true) × (is_in c class ≡ true)) → list_any (λ k. is_in k codes) class ≡ true
  meets-some set w = list_any_from (λ k. is_in k codes) class w.0 (Member-is_in class w.0 w.3) w.2

  pub meets-none : IsCodeSet class → (((c : ℕ) × (c < 31) × (is_in c codes ≡ true) × (is_in c class ≡ true)) → ⊥) →
      list_any (λ k. is_in k codes) class ≡ false
  meets-none set apart = elim (cases_Bool (list_any (λ k. is_in k codes) class)) [
    | inl t ↦
        let w = list_any_back (λ k. is_in k codes) class t in
        absurd (apart (w.0, code_low class w.0 set w.1, w.2, is_in-Member class w.0 w.1))
    | inr f ↦ f
  ]
