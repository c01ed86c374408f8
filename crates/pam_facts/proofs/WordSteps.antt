-- The first word of a line.
use Rattle.std.proofs.Common.{◌≡◌, ◌≢◌, ◌∙◌, ◌+◌, ℕ, Bool, true, false, not, List, [], ◌∷◌, length, take, drop, filter, cond, refl, sym, ap, arith, one-add}
use Rattle.std.specs.List.{slice_split, onto_first, prefix_len}
use Rattle.pam_text.specs.Blanks.{is_table_blank}
use Rattle.pam_facts.specs.Words.{has_bytes, words_of}

-- leading blanks are skipped
pub blanks_skipped : (text : List ℕ) → words_of text ≡ words_of (drop (prefix_len is_table_blank text) text)
unfolding words_of
blanks_skipped [] = refl
blanks_skipped (b ∷ bs) =
    elim (is_table_blank b) as (λ (t : Bool). is_table_blank b ≡ t →
    filter has_bytes (cond t ([] ∷ slice_split is_table_blank bs) (onto_first b (slice_split is_table_blank bs)))
    ≡ words_of (drop (cond t (1 + prefix_len is_table_blank bs) 0) (b ∷ bs))) [
      | true ↦ λ e. blanks_skipped bs ∙ rw one-add refl
      | false ↦ λ e. ap (λ (t : Bool). filter has_bytes (cond t ([] ∷ slice_split is_table_blank bs) (onto_first b (slice_split is_table_blank bs)))) (sym e)
    ] refl

-- no blank is right after the leading ones
pub none_after : (bs : List ℕ) → prefix_len is_table_blank (drop (prefix_len is_table_blank bs) bs) ≡ 0
none_after [] = refl
none_after (b ∷ bs) =
    elim (is_table_blank b) as (λ (t : Bool). is_table_blank b ≡ t →
    prefix_len is_table_blank (drop (cond t (1 + prefix_len is_table_blank bs) 0) (b ∷ bs)) ≡ 0) [
      | true ↦ λ e. rw one-add (none_after bs)
      | false ↦ λ e. ap (λ (t : Bool). cond t (1 + prefix_len is_table_blank bs) 0) e
    ] refl

pub no_words : (text : List ℕ) → length text ≡ 0 → words_of text ≡ []
unfolding words_of
no_words [] h = refl
no_words (b ∷ bs) h = absurd (omega arith)

abbrev in_word : ℕ → Bool
in_word b = not (is_table_blank b)

-- the first part, and other parts with the words after it
record FirstSplit (text : List ℕ) : Type 0 where
  others : List (List ℕ)
  are : slice_split is_table_blank text ≡ take (prefix_len in_word text) text ∷ others
  words : filter has_bytes others ≡ words_of (drop (prefix_len in_word text) text)

first_split : (text : List ℕ) → FirstSplit text
unfolding words_of
first_split [] = record { others = []; are = refl; words = refl }
first_split (b ∷ bs) = go (is_table_blank b) refl (first_split bs)
  where
    go : (t : Bool) → is_table_blank b ≡ t → FirstSplit bs → FirstSplit (b ∷ bs)
    go true e ps = record { others = slice_split is_table_blank bs; are = rw e refl; words = rw e (rw e refl) }
    go false e ps = record { others = ps.others; are = rw e (rw one-add (ap (onto_first b) ps.are)); words = rw e (rw one-add ps.words) }

pub word_first : (text : List ℕ) → length text ≢ 0 → prefix_len is_table_blank text ≡ 0 →
    words_of text ≡ take (prefix_len in_word text) text ∷ words_of (drop (prefix_len in_word text) text)
unfolding words_of
word_first [] some h = absurd (some refl)
word_first (b ∷ bs) some h =
    elim (is_table_blank b) as (λ (t : Bool). is_table_blank b ≡ t → cond t (1 + prefix_len is_table_blank bs) 0 ≡ 0 →
    words_of (b ∷ bs) ≡ take (prefix_len in_word (b ∷ bs)) (b ∷ bs) ∷ words_of (drop (prefix_len in_word (b ∷ bs)) (b ∷ bs))) [
      | true ↦ λ e z. absurd (omega arith)
      | false ↦ λ e z.
          let ps = first_split (b ∷ bs) in
          ap (filter has_bytes) ps.are
          ∙ rw e (rw one-add (ap (λ (ws : List (List ℕ)). (b ∷ take (prefix_len in_word bs) bs) ∷ ws) (rw e at (rw one-add at ps.words))))
    ] refl h
