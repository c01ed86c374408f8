-- The parts of a text that is cut at each separator.
use Rattle.std.proofs.Common.{◌≡◌, ◌∙◌, ◌+◌, ◌≤◌, ℕ, Bool, true, false, not, List, [], ◌∷◌, length, take, drop, cond, nat_lt, Option, Some, None, refl, sym, ap, arith}
use Rattle.std.specs.List.{slice_split, onto_first, position_or_len}
use Rattle.std.specs.Option.{option_map_or}
use Rattle.std.proofs.lemmas.Bool.{ltb-true, ltb-false}
use Rattle.std.proofs.lemmas.List.Splits.{slice_split_first}
use Rattle.pam_text.specs.Cut.{cut_at}

-- the parts of a text that has a separator
pub split_found : (p : ℕ → Bool) (text a r : List ℕ) → Some (a, r) ≡ cut_at p text → slice_split p text ≡ a ∷ slice_split p r
split_found p text a r h =
    elim (nat_lt (position_or_len p text) (length text)) as (λ (t : Bool). nat_lt (position_or_len p text) (length text) ≡ t → Some (a, r) ≡ cut_at p text →
    slice_split p text ≡ a ∷ slice_split p r) [
      | true ↦ λ e g.
          let found : Some (a, r) ≡ Some (take (position_or_len p text) text, drop (position_or_len p text + 1) text) = rw e at g in
          slice_split_first p text 0 (ltb-true _ _ e) ∙ ap (λ (o : Option (List ℕ × List ℕ)). option_map_or (λ q. q.0 ∷ slice_split p q.1) o []) (sym found)
      | false ↦ λ e g. let nothing : Some (a, r) ≡ None = rw e at g in absurd (cc)
    ] refl h

split_whole : (p : ℕ → Bool) (text : List ℕ) → length text ≤ position_or_len p text → slice_split p text ≡ text ∷ []
split_whole p [] h = refl
split_whole p (b ∷ bs) h =
    elim (p b) as (λ (t : Bool). length (b ∷ bs) ≤ cond (not t) (1 + position_or_len p bs) 0 →
    cond t ([] ∷ slice_split p bs) (onto_first b (slice_split p bs)) ≡ (b ∷ bs) ∷ []) [
      | true ↦ λ l. absurd (omega arith)
      | false ↦ λ l. ap (onto_first b) (split_whole p bs (omega arith))
    ] h

-- a text with no separator is its only part
pub split_none : (p : ℕ → Bool) (text : List ℕ) → None ≡ cut_at p text → slice_split p text ≡ text ∷ []
split_none p text h =
    elim (nat_lt (position_or_len p text) (length text)) as (λ (t : Bool). nat_lt (position_or_len p text) (length text) ≡ t → None ≡ cut_at p text →
    slice_split p text ≡ text ∷ []) [
      | true ↦ λ e g. let found : None ≡ Some (take (position_or_len p text) text, drop (position_or_len p text + 1) text) = rw e at g in absurd (cc)
      | false ↦ λ e g. split_whole p text (ltb-false _ _ e)
    ] refl h
