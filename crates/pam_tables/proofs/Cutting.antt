-- A text cut at its first separator, and at each of them.
use Rattle.std.proofs.Common.{◌≡◌, ◌∙◌, ◌+◌, ◌<◌, ◌≤◌, ◌&&◌, ℕ, Bool, true, false, not, List, [], ◌∷◌, length, take, drop, cond, nat_lt, Option, Some}
use Rattle.std.proofs.Common.{None, refl, sym, ap, arith}
use Rattle.std.specs.List.{slice_split, onto_first, position_or_len, list_all}
use Rattle.std.specs.Option.{option_map_or}
use Rattle.std.proofs.lemmas.Bool.{ltb-true, ltb-false}
use Rattle.std.proofs.lemmas.List.Splits.{slice_split_first}
use Rattle.pam_tables.specs.Lines.{cut_at}
use Rattle.pam_text.proofs.Splits.{split_found}

pub split_two : (p : ℕ → Bool) (text a r b s : List ℕ) → Some (a, r) ≡ cut_at p text → Some (b, s) ≡ cut_at p r → slice_split p text ≡ a ∷ b ∷ slice_split p s
split_two p text a r b s e f = split_found p text a r e ∙ ap (λ (ps : List (List ℕ)). a ∷ ps) (split_found p r b s f)

pub split_three : (p : ℕ → Bool) (text a r b s c d : List ℕ) → Some (a, r) ≡ cut_at p text → Some (b, s) ≡ cut_at p r → Some (c, d) ≡ cut_at p s →
    slice_split p text ≡ a ∷ b ∷ c ∷ slice_split p d
split_three p text a r b s c d e f g = split_two p text a r b s e f ∙ ap (λ (ps : List (List ℕ)). a ∷ b ∷ ps) (split_found p s c d g)

and_false : (b : Bool) → (b && false) ≡ false
and_false true = refl
and_false false = refl

-- a test that fails on separators does not hold on all bytes of a text that has one
pub none_passes : (p q : ℕ → Bool) (text : List ℕ) → ((b : ℕ) → p b ≡ true → q b ≡ false) → position_or_len p text < length text → list_all q text ≡ false
none_passes p q [] f h = absurd (omega arith)
none_passes p q (b ∷ bs) f h =
    elim (p b) as (λ (t : Bool). p b ≡ t → cond (not t) (1 + position_or_len p bs) 0 < length (b ∷ bs) → (q b && list_all q bs) ≡ false) [
      | true ↦ λ e l. ap (λ (t : Bool). t && list_all q bs) (f b e)
      | false ↦ λ e l. ap (λ (t : Bool). q b && t) (none_passes p q bs f (omega arith)) ∙ and_false (q b)
    ] refl h

-- the index of a separator is within the text
pub found_within : (p : ℕ → Bool) (text : List ℕ) (x : List ℕ × List ℕ) → Some x ≡ cut_at p text → position_or_len p text < length text
found_within p text x h =
    elim (nat_lt (position_or_len p text) (length text)) as (λ (t : Bool). nat_lt (position_or_len p text) (length text) ≡ t → Some x ≡ cut_at p text →
    position_or_len p text < length text) [
      | true ↦ λ e g. ltb-true _ _ e
      | false ↦ λ e g. let nothing : Some x ≡ None = rw e at g in absurd (cc)
    ] refl h

-- a list of parts is not empty
pub record FirstPart {X : Type 0} (ps : List (List X)) : Type 0 where
  pub first : List X
  pub others : List (List X)
  pub are : ps ≡ first ∷ others

onto_parts : {X : Type 0} (x : X) (ps : List (List X)) → FirstPart ps → FirstPart (onto_first x ps)
onto_parts x ps h = record { first = x ∷ h.first; others = h.others; are = ap (onto_first x) h.are }

pub split_parts : {X : Type 0} (p : X → Bool) (text : List X) → FirstPart (slice_split p text)
split_parts p [] = record { first = []; others = []; are = refl }
split_parts p (b ∷ bs) = elim (p b) as (λ (t : Bool). FirstPart (cond t ([] ∷ slice_split p bs) (onto_first b (slice_split p bs)))) [
  | true ↦ record { first = []; others = slice_split p bs; are = refl }
  | false ↦ onto_parts b _ (split_parts p bs)
]
