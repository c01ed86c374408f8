-- The names of modules that are tied, and of others.
use Rattle.std.proofs.Common.{◌≡◌, ◌⊎◌, ◌<◌, ◌≤◌, ◌+◌, ◌∙◌, ℕ, Bool, true, List, Option, Some, None, ap, arith, inl, inr, refl, sym, subst}
use Rattle.pam_codes.specs.Set.{codes_where, is_in}
use Rattle.pam_codes.specs.inner.SetBits.{is_in-codes_where}
use Rattle.pam_paths.specs.Listing.{Allowance}
use Rattle.pam_compare.specs.Agreement.{AreTied, HaveCommonCode}
use Rattle.pam_compare.specs.Matching.{partner_of}
use Rattle.pam_compare.specs.Names.{IsName}

-- a code in both sets is one that passes both tests
pub common-passes : (p q : ℕ → Bool) (s t : List ℕ) → s ≡ codes_where p → t ≡ codes_where q →
    (c : ℕ) × (c < 31) × (is_in c s ≡ true) × (is_in c t ≡ true) → (c : ℕ) × (c < 31) × (p c ≡ true) × (q c ≡ true)
common-passes p q s t e f w =
    (w.0, w.1, sym (is_in-codes_where p w.0 w.1) ∙ sym (ap (is_in w.0) e) ∙ w.2, sym (is_in-codes_where q w.0 w.1) ∙ sym (ap (is_in w.0) f) ∙ w.3)

pub passes-common : (p q : ℕ → Bool) (s t : List ℕ) → s ≡ codes_where p → t ≡ codes_where q →
    (c : ℕ) × (c < 31) × (p c ≡ true) × (q c ≡ true) → (c : ℕ) × (c < 31) × (is_in c s ≡ true) × (is_in c t ≡ true)
passes-common p q s t e f w =
    (w.0, w.1, ap (is_in w.0) e ∙ is_in-codes_where p w.0 w.1 ∙ w.2, ap (is_in w.0) f ∙ is_in-codes_where q w.0 w.1 ∙ w.3)

some-same : (i p : ℕ) → Some i ≡ Some p → i ≡ p
some-same i p e = cc

none-some : (i : ℕ) → None ≡ Some i → ⊥
none-some i e = cc

module _ (old new : Allowance) (count : ℕ) (partners : List (Option ℕ)) (j : ℕ) where
  pub name-none : partner_of partners j ≡ None → IsName old new count partners j (count + j)
  name-none none = record { either = inr refl; tied = λ i h. absurd (none-some i (sym none ∙ h.0)) }

  module _ (p : ℕ) (is : partner_of partners j ≡ Some p) where
    is-partner : (i : ℕ) → AreTied old new count partners i j → i ≡ p
    is-partner i h = some-same i p (sym h.0 ∙ is)

    pub name-outside : (p ≡ 0) ⊎ (count < p) → IsName old new count partners j (count + j)
    name-outside out = record {
      either = inr refl;
      tied = λ i h.
          let same = is-partner i h in
          let low = h.1 in
          let high = h.2 in
          elim out [ inl zero ↦ absurd (omega (arith, same, low, zero)) | inr past ↦ absurd (omega (arith, same, high, past)) ];
    }

    pub name-apart : (HaveCommonCode old new p j → ⊥) → IsName old new count partners j (count + j)
    name-apart apart = record {
      either = inr refl;
      tied = λ i h. absurd (apart (subst (λ (n : ℕ). HaveCommonCode old new n j) (is-partner i h) h.3));
    }

    pub name-tied : 0 < p → p ≤ count → HaveCommonCode old new p j → IsName old new count partners j p
    name-tied positive most common = record {
      either = inl (most, (is, positive, most, common));
      tied = λ i h. sym (is-partner i h);
    }
