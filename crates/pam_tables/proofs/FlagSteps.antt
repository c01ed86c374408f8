-- A flag in the bits of words: after it is set, and before any is.
use Rattle.std.proofs.Common.{◌≡◌, ◌≢◌, ◌<◌, ◌*◌, ◌/◌, ◌%◌, ◌^◌, ◌||◌, ℕ, zero, suc, Bool, true, false, List, length, get_or, set, replicate}
use Rattle.std.proofs.Common.{bit_and, bit_or, eqb, inl, inr, ap, ◌∙◌, sym, refl, arith}
use Rattle.std.specs.Int.{bit_at, w64}
use Rattle.std.proofs.lemmas.Bool.{eq-eqb, ne_eqb, cases_eq}
use Rattle.std.proofs.lemmas.List.{get_or-set_other, get_or-set_same}
use Rattle.std.proofs.lemmas.Nat.{div-add-mod', div_below, mod_below}
use Rattle.std.proofs.lemmas.Nat.Bits.{bit_at-zero, bit_at_set_same, bit_at_set_other, shr_and_one}
use Rattle.pam_tables.specs.inner.Flags.{is_set}

no_word : (n i : ℕ) → get_or {A = ℕ} (replicate n 0) i 0 ≡ 0
no_word zero i = refl
no_word (suc n) zero = refl
no_word (suc n) (suc i) = no_word n i

pub none_set : (n index : ℕ) → is_set (replicate n 0) index ≡ false
unfolding is_set
none_set n index =
    ap (λ (word : ℕ). eqb (bit_at word (index % 64)) 1) (no_word n (index / 64)) ∙ ap (λ (bit : ℕ). eqb bit 1) (bit_at-zero (index % 64))

pub flag_of : (words : List ℕ) (index : ℕ) → eqb (bit_and (get_or words (index / 64) 0 / 2 ^ (index % 64)) 1) 1 ≡ is_set words index
unfolding is_set
flag_of words index = ap (λ (bit : ℕ). eqb bit 1) (shr_and_one (get_or words (index / 64) 0) (index % 64))

-- a flag is set, and the others stay
module _ (words : List ℕ) (index : ℕ) (low : index < 160000) (long : length words ≡ 2500) where
  abbrev new_word : ℕ
  new_word = bit_or (get_or words (index / 64) 0) (1 * 2 ^ (index % 64) % 2 ^ 64)

  small : index % 64 < 64
  small = mod_below index 64 (omega arith)

  within : index / 64 < length words
  within = rw long (div_below index 64 2500 (omega arith) low)

  own : is_set (set words (index / 64) new_word) index ≡ true
  unfolding is_set
  own =
      ap (λ (w : ℕ). eqb (bit_at w (index % 64)) 1) (get_or-set_same words (index / 64) new_word 0 within)
      ∙ ap (λ (bit : ℕ). eqb bit 1) (bit_at_set_same w64 (get_or words (index / 64) 0) (index % 64) small)

  same_word : (k : ℕ) → k ≢ index → k / 64 ≡ index / 64 → is_set (set words (index / 64) new_word) k ≡ is_set words k
  unfolding is_set
  same_word k ne same =
      let apart : k % 64 ≢ index % 64 = λ e. ne (sym (div-add-mod' k 64) ∙ rw (same, e) (div-add-mod' index 64)) in
      rw same (ap (λ (w : ℕ). eqb (bit_at w (k % 64)) 1) (get_or-set_same words (index / 64) new_word 0 within)
      ∙ ap (λ (bit : ℕ). eqb bit 1) (bit_at_set_other w64 (get_or words (index / 64) 0) (index % 64) small (k % 64) apart))

  other_word : (k : ℕ) → k / 64 ≢ index / 64 → is_set (set words (index / 64) new_word) k ≡ is_set words k
  unfolding is_set
  other_word k ne = ap (λ (w : ℕ). eqb (bit_at w (k % 64)) 1) (get_or-set_other words (index / 64) (k / 64) new_word 0 ne)

  pub set_flag : (k : ℕ) → is_set (set words (index / 64) new_word) k ≡ (eqb k index || is_set words k)
  set_flag k = elim (cases_eq k index) [
    | inl e ↦ rw e (own ∙ ap (λ (t : Bool). t || is_set words index) (sym (eq-eqb index index refl)))
    | inr ne ↦ elim (cases_eq (k / 64) (index / 64)) [
      | inl same ↦ same_word k ne same ∙ ap (λ (t : Bool). t || is_set words k) (sym (ne_eqb k index ne))
      | inr other ↦ other_word k other ∙ ap (λ (t : Bool). t || is_set words k) (sym (ne_eqb k index ne))
    ]
  ]
