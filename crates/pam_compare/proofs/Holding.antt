-- Answers that are held.
use Rattle.std.proofs.Common.{◌≡◌, ◌⊎◌, ◌<◌, ◌+◌, ◌∙◌, ◌||◌, ◌&&◌, ℕ, zero, suc, Bool, true, false, cond, eqb, List, [], ◌∷◌, ◌++◌, Some, None}
use Rattle.std.proofs.Common.{drop, get_or, length, filter, ap, arith, inl, inr, refl, subst, sym}
use Rattle.std.specs.Prelude.{not, slice_get}
use Rattle.std.specs.List.{range_with_len}
use Rattle.std.proofs.lemmas.Bool.{eqb-true, false≢true}
use Rattle.pam_codes.specs.Code.{all_codes}
use Rattle.pam_codes.specs.Set.{codes_where, is_in}
use Rattle.pam_dispatch.specs.Runs.{Assignment}
use Rattle.pam_compare.specs.declared.held.HeldAnswer.{HeldAnswer}
use Rattle.pam_compare.specs.Held.{Holds}

pub holds-at : (a : Assignment) (held : List HeldAnswer) (k : ℕ) (d : HeldAnswer) → k < length held → Holds a held →
    is_in (a (get_or held k d).name) (get_or held k d).codes ≡ true
unfolding Holds
holds-at a [] k d within h = absurd (omega arith)
holds-at a (x ∷ xs) zero d within h = h.0
holds-at a (x ∷ xs) (suc k) d within h = holds-at a xs k d (omega (arith, within)) h.1

pub holds-push : (a : Assignment) (held : List HeldAnswer) (x : HeldAnswer) → Holds a held → is_in (a x.name) x.codes ≡ true →
    Holds a (held ++ x ∷ [])
unfolding Holds
holds-push a [] x h new = (new, tt)
holds-push a (y ∷ ys) x h new = (h.0, holds-push a ys x h.1 new)

pub holds-append : (a : Assignment) (latest held : List HeldAnswer) → Holds a latest → Holds a held → Holds a (latest ++ held)
unfolding Holds
holds-append a [] held new h = h
holds-append a (x ∷ latest) held new h = (new.0, holds-append a latest held new.1 h)

pub holds-drop : (a : Assignment) (held : List HeldAnswer) (start : ℕ) → Holds a held → Holds a (drop start held)
unfolding Holds
holds-drop a held zero h = h
holds-drop a [] (suc start) h = h
holds-drop a (x ∷ held) (suc start) h = holds-drop a held start h.1

pub holds-equal : (a : Assignment) (held other : List HeldAnswer) → held ≡ other → Holds a held → Holds a other
holds-equal a held other e h = subst (Holds a) e h

none-some : (h : HeldAnswer) → None ≡ Some h → ⊥
none-some h e = cc

pub some-held : (h k : HeldAnswer) → Some h ≡ Some k → h ≡ k
some-held h k e = cc

pub holds-get : (a : Assignment) (held : List HeldAnswer) (i : ℕ) (h : HeldAnswer) → slice_get held i ≡ Some h → Holds a held → is_in (a h.name) h.codes ≡ true
unfolding Holds
holds-get a [] i h at holds = absurd (none-some h at)
holds-get a (x ∷ xs) zero h at holds = subst (λ (y : HeldAnswer). is_in (a y.name) y.codes ≡ true) (some-held x h at) holds.0
holds-get a (x ∷ xs) (suc i) h at holds = holds-get a xs i h at holds.1

-- CODES THAT PASS A TEST

in-filter : (p : ℕ → Bool) (c : ℕ) (xs : List ℕ) → is_in c (filter p xs) ≡ true → p c ≡ true
in-filter p c [] h = absurd (false≢true h)
in-filter p c (x ∷ xs) h =
    elim (p x) as (λ (b : Bool). p x ≡ b → is_in c (cond b (x ∷ filter p xs) (filter p xs)) ≡ true → p c ≡ true) [
      | true ↦ λ e k. elim (eqb x c) as (λ (t : Bool). eqb x c ≡ t → (t || is_in c (filter p xs)) ≡ true → p c ≡ true) [
        | true ↦ λ f _. ap p (sym (eqb-true x c f)) ∙ e
        | false ↦ λ f l. in-filter p c xs l
      ] refl k
      | false ↦ λ e k. in-filter p c xs k
    ] refl h

pub where-passes : (p : ℕ → Bool) (c : ℕ) → is_in c (codes_where p) ≡ true → p c ≡ true
where-passes p c h = in-filter p c all_codes h

or-cases : (s t : Bool) → (s || t) ≡ true → (s ≡ true) ⊎ (t ≡ true)
or-cases true t h = inl refl
or-cases false t h = inr h

pub or-first : (s t : Bool) → s ≡ true → (s || t) ≡ true
or-first true t e = refl
or-first false t e = absurd (false≢true e)

pub or-right : (s t : Bool) → t ≡ true → (s || t) ≡ true
or-right true t e = refl
or-right false t e = e

-- what holds of each code of a set, and of one more
pub inserted : (P : ℕ → Type 0) (other : ℕ) (class after : List ℕ) → after ≡ codes_where (λ x. eqb x other || is_in x class) → P other →
    ((d : ℕ) → d < 31 → is_in d class ≡ true → P d) → (d : ℕ) → d < 31 → is_in d after ≡ true → P d
inserted P other class after e here before d low h =
    elim (or-cases (eqb d other) (is_in d class) (where-passes (λ x. eqb x other || is_in x class) d (sym (ap (is_in d) e) ∙ h))) [
      | inl same ↦ subst P (sym (eqb-true d other same)) here
      | inr member ↦ before d low member
    ]

member-filter : (p : ℕ → Bool) (c : ℕ) (xs : List ℕ) → is_in c (filter p xs) ≡ true → is_in c xs ≡ true
member-filter p c [] h = h
member-filter p c (x ∷ xs) h =
    elim (p x) as (λ (b : Bool). is_in c (cond b (x ∷ filter p xs) (filter p xs)) ≡ true → (eqb x c || is_in c xs) ≡ true) [
      | true ↦ λ k. elim (eqb x c) as (λ (t : Bool). (t || is_in c (filter p xs)) ≡ true → (t || is_in c xs) ≡ true) [
        | true ↦ λ l. refl
        | false ↦ λ l. member-filter p c xs l
      ] k
      | false ↦ λ k. elim (eqb x c) as (λ (t : Bool). (t || is_in c xs) ≡ true) [ true ↦ refl | false ↦ member-filter p c xs k ]
    ] h

in-range : (c a n : ℕ) → is_in c (range_with_len a n) ≡ true → c < a + n
in-range c a zero h = absurd (false≢true h)
in-range c a (suc n) h =
    elim (or-cases (eqb a c) (is_in c (range_with_len (a + 1) n)) h) [
      | inl same ↦ let e : a ≡ c = eqb-true a c same in omega (arith, e)
      | inr later ↦ let rest : c < a + 1 + n = in-range c (a + 1) n later in omega (arith, rest)
    ]

-- the codes of a set are codes
pub where-low : (p : ℕ → Bool) (c : ℕ) → is_in c (codes_where p) ≡ true → c < 31
unfolding all_codes
where-low p c h = in-range c 0 31 (member-filter p c (range_with_len 0 31) h)

pub taken-out : (s m : Bool) → s ≡ true → (s && not m) ≡ false → m ≡ true
taken-out true true e f = refl
taken-out true false e f = absurd (false≢true (sym f))
taken-out false m e f = absurd (false≢true e)
