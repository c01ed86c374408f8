-- The codes that are possible for names.
use Rattle.std.proofs.Common.{◌≡◌, ◌<◌, ◌∙◌, ◌&&◌, ℕ, Bool, true, List, [], ◌∷◌, ◌++◌, get_or, length, ap, arith, inl, inr, subst, sym}
use Rattle.std.proofs.Math.ListN.{set}
use Rattle.std.proofs.lemmas.Bool.{and_from, and_parts, cases_eq, cases_lt}
use Rattle.std.proofs.lemmas.List.{get_or-set_other, get_or-set_same, get_or_append_left, get_or_past, get_or_push, length_push}
use Rattle.pam_codes.specs.Code.{all_codes}
use Rattle.pam_codes.specs.Set.{codes_where, is_in}
use Rattle.pam_codes.specs.inner.SetBits.{is_in-codes_where}
use Rattle.pam_dispatch.specs.Runs.{Assignment}
use Rattle.pam_compare.specs.inner.Naming.{IsPossible}

-- COMMON CODES

pub in-common : (one other : List ℕ) (code : ℕ) → code < 31 → is_in code one ≡ true → is_in code other ≡ true →
    is_in code (codes_where (λ c. is_in c one && is_in c other)) ≡ true
in-common one other code low first second =
    is_in-codes_where (λ c. is_in c one && is_in c other) code low ∙ and_from (is_in code one) (is_in code other) first second

-- SETS BY NAME

pub possible-push : (sets : List (List ℕ)) (more : List ℕ) (a : Assignment) → IsPossible sets a → is_in (a (length sets)) more ≡ true →
    IsPossible (sets ++ more ∷ []) a
unfolding IsPossible
possible-push sets more a h new name =
    let In : List ℕ → Type 0 = λ s. is_in (a name) s ≡ true in (
      (h name).0,
      elim (cases_lt name (length sets)) [
        | inl less ↦ subst In (sym (get_or_append_left sets (more ∷ []) all_codes name less)) (h name).1
        | inr most ↦ elim (cases_lt (length sets) name) [
          | inl past ↦ subst In (sym (get_or_past (sets ++ more ∷ []) name all_codes (omega (arith, past, length_push sets more))))
              (subst In (get_or_past sets name all_codes most) (h name).1)
          | inr least ↦
              let same : length sets ≡ name = omega (arith, most, least) in
              subst In (sym (get_or_push sets more all_codes name same)) (subst (λ (n : ℕ). is_in (a n) more ≡ true) same new)
        ]
      ],
    )

pub possible-set : (sets : List (List ℕ)) (at : ℕ) (more : List ℕ) (a : Assignment) → at < length sets → IsPossible sets a →
    is_in (a at) more ≡ true → IsPossible (set sets at more) a
unfolding IsPossible
possible-set sets at more a within h new name =
    let In : List ℕ → Type 0 = λ s. is_in (a name) s ≡ true in (
      (h name).0,
      elim (cases_eq name at) [
        | inl same ↦ subst In
            (sym (ap (λ (n : ℕ). get_or (set sets at more) n all_codes) same ∙ get_or-set_same sets at more all_codes within))
            (subst (λ (n : ℕ). is_in (a n) more ≡ true) (sym same) new)
        | inr other ↦ subst In (sym (get_or-set_other sets at name more all_codes other)) (h name).1
      ],
    )

pub in-all : (code : ℕ) → code < 31 → is_in code all_codes ≡ true
unfolding all_codes
in-all code low = is_in-codes_where (λ c. true) code low

pub allowed-push : (allows : ℕ → Bool) (sets : List (List ℕ)) (more : List ℕ) (after : List (List ℕ)) (a : Assignment) (at : ℕ) →
    after ≡ sets ++ more ∷ [] → more ≡ codes_where allows → length sets ≡ at → a at < 31 → allows (a at) ≡ true → IsPossible sets a → IsPossible after a
allowed-push allows sets more after a at e is same low may h =
    let member : is_in (a at) more ≡ true = ap (is_in (a at)) is ∙ is_in-codes_where allows (a at) low ∙ may in
    subst (λ (l : List (List ℕ)). IsPossible l a) (sym e)
    (possible-push sets more a h (subst (λ (n : ℕ). is_in (a n) more ≡ true) (sym same) member))

pub possible-first : (start sets : List (List ℕ)) (all : List ℕ) (a : Assignment) → start ≡ [] → sets ≡ start ++ all ∷ [] → all ≡ all_codes →
    ((name : ℕ) → a name < 31) → IsPossible sets a
unfolding IsPossible
possible-first start sets all a e f g low =
    let nothing : IsPossible start a = subst (λ (l : List (List ℕ)). IsPossible l a) (sym e) (λ name. (low name, in-all (a name) (low name))) in
    subst (λ (l : List (List ℕ)). IsPossible l a) (sym f)
    (possible-push start all a nothing (subst (λ (s : List ℕ). is_in (a (length start)) s ≡ true) (sym g) (in-all _ (low _))))

pub narrowed : (sets : List (List ℕ)) (at : ℕ) (codes left : List ℕ) (after : List (List ℕ)) (a : Assignment) → at < length sets →
    left ≡ codes_where (λ c. is_in c (get_or sets at all_codes) && is_in c codes) → after ≡ set sets at left →
    is_in (a at) codes ≡ true → IsPossible sets a → IsPossible after a
unfolding IsPossible
narrowed sets at codes left after a within is e member h =
    subst (λ (l : List (List ℕ)). IsPossible l a) (sym e)
    (possible-set sets at left a within h
    (subst (λ (s : List ℕ). is_in (a at) s ≡ true) (sym is) (in-common (get_or sets at all_codes) codes (a at) (h at).0 (h at).1 member)))

pub possible-low : (sets : List (List ℕ)) (a : Assignment) (name : ℕ) → IsPossible sets a → a name < 31
unfolding IsPossible
possible-low sets a name h = (h name).0

-- WHAT IS POSSIBLE AFTERWARDS WAS POSSIBLE BEFORE

pub allowed-push-back : (allows : ℕ → Bool) (sets : List (List ℕ)) (more : List ℕ) (after : List (List ℕ)) (a : Assignment) (at : ℕ) →
    after ≡ sets ++ more ∷ [] → more ≡ codes_where allows → length sets ≡ at → IsPossible after a → IsPossible sets a × (allows (a at) ≡ true)
unfolding IsPossible
allowed-push-back allows sets more after a at e is same h =
    let In : List (List ℕ) → ℕ → Type 0 = λ l n. is_in (a n) (get_or l n all_codes) ≡ true in
    let here : In (sets ++ more ∷ []) at = subst (λ (l : List (List ℕ)). In l at) e (h at).1 in (
      λ name. (
        (h name).0,
        elim (cases_lt name (length sets)) [
          | inl less ↦ subst (λ (s : List ℕ). is_in (a name) s ≡ true) (get_or_append_left sets (more ∷ []) all_codes name less)
              (subst (λ (l : List (List ℕ)). In l name) e (h name).1)
          | inr most ↦ subst (λ (s : List ℕ). is_in (a name) s ≡ true) (sym (get_or_past sets name all_codes most)) (in-all (a name) (h name).0)
        ],
      ),
      sym (is_in-codes_where allows (a at) (h at).0)
          ∙ subst (λ (s : List ℕ). is_in (a at) s ≡ true) is (subst (λ (s : List ℕ). is_in (a at) s ≡ true) (get_or_push sets more all_codes at same) here),
    )

pub narrowed-back : (sets : List (List ℕ)) (at : ℕ) (codes left : List ℕ) (after : List (List ℕ)) (a : Assignment) → at < length sets →
    left ≡ codes_where (λ c. is_in c (get_or sets at all_codes) && is_in c codes) → after ≡ set sets at left →
    IsPossible after a → IsPossible sets a × (is_in (a at) codes ≡ true)
unfolding IsPossible
narrowed-back sets at codes left after a within is e h =
    let In : List ℕ → ℕ → Type 0 = λ s n. is_in (a n) s ≡ true in
    let moved : (name : ℕ) → In (get_or (set sets at left) name all_codes) name =
    λ name. subst (λ (l : List (List ℕ)). In (get_or l name all_codes) name) e (h name).1 in
    let here : In left at = subst (λ (s : List ℕ). In s at) (get_or-set_same sets at left all_codes within) (moved at) in
    let parts = and_parts (is_in (a at) (get_or sets at all_codes)) (is_in (a at) codes)
    (sym (is_in-codes_where (λ c. is_in c (get_or sets at all_codes) && is_in c codes) (a at) (h at).0) ∙ subst (λ (s : List ℕ). In s at) is here) in (
      λ name. (
        (h name).0,
        elim (cases_eq name at) [
          | inl same ↦ subst (λ (n : ℕ). In (get_or sets n all_codes) n) (sym same) parts.0
          | inr other ↦ subst (λ (s : List ℕ). In s name) (get_or-set_other sets at name left all_codes other) (moved name)
        ],
      ),
      parts.1,
    )
