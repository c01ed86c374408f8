-- The first byte that passes a test, as a search and as a definition give it.
use Rattle.std.proofs.Common.{◌≡◌, ◌∙◌, ◌<◌, ◌||◌, ◌==◌, ℕ, suc, Bool, true, false, List, [], ◌∷◌, length, position}
use Rattle.std.proofs.Common.{Option, Some, None, refl, sym, ap, arith, get_or, is_some}
use Rattle.std.specs.List.{list_any, position_or_len}
use Rattle.std.proofs.lemmas.Bool.{eqb-true, eq-eqb, lt-ltb, le-ltb}
use Rattle.std.proofs.lemmas.List.Folds.{list_any_at}
use Rattle.std.proofs.lemmas.List.Sums.{position_or_len_is}
use Rattle.memchr.specs.Find.{IsFirstByte}
use Rattle.pam_text.specs.Cut.{is_among}
use Rattle.pam_text.proofs.Cutting.{or_false}

not_true : (b : Bool) → (b ≡ true → ⊥) → b ≡ false
not_true true h = absurd (h refl)
not_true false h = refl

turned : (n b : ℕ) → (n == b) ≡ (b == n)
turned n b =
    elim (b == n) as (λ (t : Bool). (b == n) ≡ t → (n == b) ≡ t) [
      | true ↦ λ e. eq-eqb n b (sym (eqb-true b n e))
      | false ↦ λ e. not_true (n == b) (λ f. let wrong : true ≡ false = sym (eq-eqb b n (sym (eqb-true n b f))) ∙ e in absurd (cc))
    ] refl

-- a byte is among one byte if it is that byte
pub same_byte : (n b : ℕ) → is_among (n ∷ []) b ≡ (b == n)
unfolding is_among
same_byte n b = or_false (n == b) ∙ turned n b

-- a byte is among bytes of which there is one if it is that byte
pub only_byte : (bytes : List ℕ) → length bytes ≡ 1 → (b : ℕ) → is_among bytes b ≡ (b == get_or bytes 0 0)
only_byte [] h b = absurd (omega arith)
only_byte (n ∷ []) h b = same_byte n b
only_byte (n ∷ m ∷ ns) h b = absurd (omega arith)

none_passes : (q : ℕ → Bool) (text : List ℕ) → ((k : ℕ) → k < length text → q (get_or text k 0) ≡ false) → list_any q text ≡ false
none_passes q [] h = refl
none_passes q (b ∷ bs) h =
    ap (λ (t : Bool). t || list_any q bs) (h 0 (omega arith)) ∙ none_passes q bs (λ k l. h (suc k) (omega (arith, l)))

module _ (p q : ℕ → Bool) (same : (b : ℕ) → p b ≡ q b) (text : List ℕ) where
  pub first_place : (r : Option ℕ) → IsFirstByte q text r → r ≡ position p text
  first_place None h =
      let whole : position_or_len p text ≡ length text = position_or_len_is p text (length text) 0 (omega arith)
      (λ k l. same _ ∙ not_true _ (h k (omega arith) l)) (λ l. absurd (omega arith)) in
      rw (whole, le-ltb (length text) (length text) (omega arith)) refl
  first_place (Some k) h =
      let found : position_or_len p text ≡ k = position_or_len_is p text k 0 (omega arith)
      (λ i l. same _ ∙ not_true _ (h.0.before i (omega arith) l)) (λ l. same _ ∙ h.1) in
      rw (found, lt-ltb k (length text) h.0.high) refl

-- a search finds whether any byte passes
pub any_place : (q : ℕ → Bool) (text : List ℕ) (r : Option ℕ) → IsFirstByte q text r → is_some r ≡ list_any q text
any_place q text None h = sym (none_passes q text (λ k l. not_true _ (h k (omega arith) l)))
any_place q text (Some k) h = sym (list_any_at q text k 0 h.0.high h.1)
