-- The first word of a line.
use Rattle.std.proofs.Common.{◌≡◌, ◌≢◌, ◌∙◌, ◌+◌, ℕ, Bool, true, false, not, List, []}
use Rattle.std.proofs.Common.{◌∷◌, cond, drop, filter, length, refl, sym, take, ap, arith, one-add}
use Rattle.std.specs.List.{onto_first, prefix_len, slice_split, take_while}
use Rattle.pam_tables.specs.Lines.{has_bytes}
use Rattle.pam_text.specs.Blanks.{is_text_blank}
use Rattle.pam_policy.specs.text.Words.{begins_comment, words_of}

abbrev filled : List ℕ → List (List ℕ)
filled text = filter has_bytes (slice_split is_text_blank text)

abbrev kept : List (List ℕ) → List (List ℕ)
kept words = take_while (λ word. not (begins_comment word)) words

-- leading blanks are skipped
filled_after_blanks : (text : List ℕ) → filled text ≡ filled (drop (prefix_len is_text_blank text) text)
filled_after_blanks [] = refl
filled_after_blanks (b ∷ bs) =
    elim (is_text_blank b) as (λ (t : Bool). is_text_blank b ≡ t →
    filter has_bytes (cond t ([] ∷ slice_split is_text_blank bs) (onto_first b (slice_split is_text_blank bs)))
    ≡ filled (drop (cond t (1 + prefix_len is_text_blank bs) 0) (b ∷ bs))) [
      | true ↦ λ e. filled_after_blanks bs ∙ rw one-add refl
      | false ↦ λ e. ap (λ (t : Bool). filter has_bytes (cond t ([] ∷ slice_split is_text_blank bs) (onto_first b (slice_split is_text_blank bs)))) (sym e)
    ] refl

pub blanks_skipped : (text : List ℕ) → words_of text ≡ words_of (drop (prefix_len is_text_blank text) text)
unfolding words_of
blanks_skipped text = ap kept (filled_after_blanks text)

-- no blank is right after the leading ones
pub none_after : (bs : List ℕ) → prefix_len is_text_blank (drop (prefix_len is_text_blank bs) bs) ≡ 0
none_after [] = refl
none_after (b ∷ bs) =
    elim (is_text_blank b) as (λ (t : Bool). is_text_blank b ≡ t →
    prefix_len is_text_blank (drop (cond t (1 + prefix_len is_text_blank bs) 0) (b ∷ bs)) ≡ 0) [
      | true ↦ λ e. rw one-add (none_after bs)
      | false ↦ λ e. ap (λ (t : Bool). cond t (1 + prefix_len is_text_blank bs) 0) e
    ] refl

pub no_words : (text : List ℕ) → length text ≡ 0 → words_of text ≡ []
unfolding words_of
no_words [] h = refl
no_words (b ∷ bs) h = absurd (omega arith)

abbrev in_word : ℕ → Bool
in_word b = not (is_text_blank b)

-- the first part, and other parts with the words after it
record FirstSplit (text : List ℕ) : Type 0 where
  others : List (List ℕ)
  are : slice_split is_text_blank text ≡ take (prefix_len in_word text) text ∷ others
  words : filter has_bytes others ≡ filled (drop (prefix_len in_word text) text)

first_split : (text : List ℕ) → FirstSplit text
first_split [] = record { others = []; are = refl; words = refl }
first_split (b ∷ bs) = go (is_text_blank b) refl (first_split bs)
  where
    go : (t : Bool) → is_text_blank b ≡ t → FirstSplit bs → FirstSplit (b ∷ bs)
    go true e ps = record { others = slice_split is_text_blank bs; are = rw e refl; words = rw e (rw e refl) }
    go false e ps = record { others = ps.others; are = rw e (rw one-add (ap (onto_first b) ps.are)); words = rw e (rw one-add ps.words) }

-- the word that a text without leading blanks begins with
abbrev rest : List ℕ → List ℕ
rest bs = drop (prefix_len in_word bs) bs

first_filled : (b : ℕ) (bs : List ℕ) → is_text_blank b ≡ false
    → filled (b ∷ bs) ≡ (b ∷ take (prefix_len in_word bs) bs) ∷ filled (rest bs)
first_filled b bs e =
    let ps = first_split (b ∷ bs) in
    ap (filter has_bytes) ps.are
    ∙ rw e (rw one-add (ap (λ (ws : List (List ℕ)). (b ∷ take (prefix_len in_word bs) bs) ∷ ws) (rw e at (rw one-add at ps.words))))

first_kept : (word : List ℕ) (words : List (List ℕ)) → begins_comment word ≡ false → kept (word ∷ words) ≡ word ∷ kept words
first_kept word words e = rw e (rw one-add refl)

none_kept : (word : List ℕ) (words : List (List ℕ)) → begins_comment word ≡ true → kept (word ∷ words) ≡ []
none_kept word words e = rw e refl

no_blank : (b : ℕ) (bs : List ℕ) → prefix_len is_text_blank (b ∷ bs) ≡ 0 → is_text_blank b ≡ false
no_blank b bs h =
    elim (is_text_blank b) as (λ (t : Bool). cond t (1 + prefix_len is_text_blank bs) 0 ≡ 0 → t ≡ false) [
      | true ↦ λ z. absurd (omega arith)
      | false ↦ λ z. refl
    ] h

pub word_first : (text : List ℕ) → length text ≢ 0 → prefix_len is_text_blank text ≡ 0 → begins_comment text ≡ false
    → words_of text ≡ take (prefix_len in_word text) text ∷ words_of (drop (prefix_len in_word text) text)
unfolding words_of
word_first [] some h plain = absurd (some refl)
word_first (b ∷ bs) some h plain =
    let e = no_blank b bs h in
    ap kept (first_filled b bs e) ∙ first_kept (b ∷ take (prefix_len in_word bs) bs) (filled (rest bs)) plain ∙ rw e (rw one-add refl)

pub comment_first : (text : List ℕ) → prefix_len is_text_blank text ≡ 0 → begins_comment text ≡ true → words_of text ≡ []
unfolding words_of
comment_first [] h is = refl
comment_first (b ∷ bs) h is =
    let e = no_blank b bs h in
    ap kept (first_filled b bs e) ∙ none_kept (b ∷ take (prefix_len in_word bs) bs) (filled (rest bs)) is
