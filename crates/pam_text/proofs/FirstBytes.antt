-- The place of the first byte that passes a test: the number of bytes before it.
use Rattle.std.proofs.Common.{◌≡◌, ◌+◌, ◌<◌, ℕ, zero, suc, Bool, true, false, not, List, [], ◌∷◌, Option, None, Some, arith, cond, get_or, length, refl, subst}
use Rattle.std.specs.List.{prefix_len}
use Rattle.memchr.specs.Find.{IsFirstByte}

module _ (test : ℕ → Bool) where
  place_of : (hay : List ℕ) (k : ℕ) → k < length hay → ((j : ℕ) → j < k → test (get_or hay j 0) ≡ true → ⊥) → test (get_or hay k 0) ≡ true
      → k ≡ prefix_len (λ b. not (test b)) hay
  place_of [] k within nothing here = absurd (omega (arith, within))
  place_of (b ∷ hay) zero within nothing here = rw here refl
  place_of (b ∷ hay) (suc k) within nothing here =
      elim (test b) as (λ (t : Bool). test b ≡ t → suc k ≡ cond (not t) (1 + prefix_len (λ c. not (test c)) hay) 0) [
        | true ↦ λ e. absurd (nothing 0 (omega arith) e)
        | false ↦ λ e.
            let rest : k ≡ prefix_len (λ c. not (test c)) hay =
            place_of hay k (omega (arith, within)) (λ j below is. nothing (suc j) (omega (arith, below)) is) here in
            omega (arith, rest)
      ] refl

  no_place : (hay : List ℕ) → ((j : ℕ) → j < length hay → test (get_or hay j 0) ≡ true → ⊥) → length hay ≡ prefix_len (λ b. not (test b)) hay
  no_place [] nothing = refl
  no_place (b ∷ hay) nothing =
      elim (test b) as (λ (t : Bool). test b ≡ t → length (b ∷ hay) ≡ cond (not t) (1 + prefix_len (λ c. not (test c)) hay) 0) [
        | true ↦ λ e. absurd (nothing 0 (omega arith) e)
        | false ↦ λ e.
            let rest : length hay ≡ prefix_len (λ c. not (test c)) hay = no_place hay (λ j below is. nothing (suc j) (omega (arith, below)) is) in
            omega (arith, rest)
      ] refl

  pub first_at : (hay : List ℕ) (r : Option ℕ) (k : ℕ) → IsFirstByte test hay r → r ≡ Some k → k ≡ prefix_len (λ b. not (test b)) hay
  first_at hay r k first is =
      let at : IsFirstByte test hay (Some k) = subst (λ (o : Option ℕ). IsFirstByte test hay o) is first in
      place_of hay k at.0.high (λ j below. at.0.before j (omega arith) below) at.1

  pub first_none : (hay : List ℕ) (r : Option ℕ) → IsFirstByte test hay r → r ≡ None → length hay ≡ prefix_len (λ b. not (test b)) hay
  first_none hay r first is =
      let none : IsFirstByte test hay None = subst (λ (o : Option ℕ). IsFirstByte test hay o) is first in
      no_place hay (λ j below. none j (omega arith) below)
