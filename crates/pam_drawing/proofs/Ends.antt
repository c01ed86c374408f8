-- Sets of ends, as the codes that pass a test.
use Rattle.std.proofs.Common.{◌≡◌, ◌∙◌, ℕ, ◌+◌, ◌<◌, ◌≤◌, ◌==◌, ◌||◌, Bool, true, false, List, [], ap, eqb, eq-eqb, get_or, length, refl, sym, take}
use Rattle.std.proofs.lemmas.Bool.{eqb-true}
use Rattle.std.proofs.lemmas.List.{take_all}
use Rattle.std.proofs.lemmas.List.Folds.{list_any_more}
use Rattle.std.specs.List.{list_any}
use Rattle.pam_codes.specs.Code.{all_codes}
use Rattle.pam_codes.specs.Set.{codes_where, is_in}
use Rattle.pam_codes.specs.inner.SetBits.{codes_where-same, is_in-codes_where}

pub none-pass : (set : List ℕ) → set ≡ [] → set ≡ codes_where (λ code. false)
unfolding all_codes
none-pass set e = e

-- the codes of two sets
pub both-pass : (f g : ℕ → Bool) (one other all : List ℕ) → one ≡ codes_where f → other ≡ codes_where g
    → all ≡ codes_where (λ c. is_in c one || is_in c other) → all ≡ codes_where (λ c. f c || g c)
both-pass f g one other all e h u =
    u ∙ codes_where-same _ _ (λ c low.
    ap (λ t. t || is_in c other) (ap (is_in c) e ∙ is_in-codes_where f c low)
    ∙ ap (λ t. f c || t) (ap (is_in c) h ∙ is_in-codes_where g c low))

same-if : (m n : ℕ) (t : Bool) → eqb m n ≡ t → eqb n m ≡ true → true ≡ t
same-if m n t e h = sym (eq-eqb m n (sym (eqb-true n m h))) ∙ e

swapped : (m n : ℕ) → eqb m n ≡ eqb n m
swapped m n =
    elim (eqb m n) as (λ (t : Bool). eqb m n ≡ t → t ≡ eqb n m) [
      | true ↦ λ e. sym (eq-eqb n m (sym (eqb-true m n e)))
      | false ↦ λ e. elim (eqb n m) as (λ (s : Bool). eqb n m ≡ s → false ≡ s) [
        | true ↦ λ h. sym (same-if m n false e h)
        | false ↦ λ h. refl
      ] refl
    ] refl

or-false : (t : Bool) → (t || false) ≡ t
or-false true = refl
or-false false = refl

-- a code that is added to no others
pub one-passes : (code : ℕ) (empty all : List ℕ) → empty ≡ [] → all ≡ codes_where (λ c. c == code || is_in c empty) → all ≡ codes_where (λ c. code == c)
one-passes code empty all e u =
    u ∙ codes_where-same _ _ (λ c low. ap (λ (l : List ℕ). eqb c code || is_in c l) e ∙ or-false (eqb c code) ∙ swapped c code)

module _ {A : Type 0} (f : ℕ → A → Bool) (xs : List A) (i : ℕ) (d : A) where
  -- the ends of one more
  pub one-more : (ends new all : List ℕ) → i < length xs → ends ≡ codes_where (λ c. list_any (f c) (take i xs)) → new ≡ codes_where (λ c. f c (get_or xs i d))
      → all ≡ codes_where (λ c. is_in c ends || is_in c new) → all ≡ codes_where (λ c. list_any (f c) (take (i + 1) xs))
  one-more ends new all h e n u =
      both-pass (λ c. list_any (f c) (take i xs)) (λ c. f c (get_or xs i d)) ends new all e n u
      ∙ codes_where-same _ _ (λ c low. sym (list_any_more (f c) xs i d h))

-- the ends of all
pub all-pass : {A : Type 0} (f : ℕ → A → Bool) (xs : List A) (i : ℕ) (ends : List ℕ) → length xs ≤ i → ends ≡ codes_where (λ c. list_any (f c) (take i xs))
    → ends ≡ codes_where (λ c. list_any (f c) xs)
all-pass f xs i ends h e = e ∙ codes_where-same _ _ (λ c low. ap (list_any (f c)) (take_all i xs h))
