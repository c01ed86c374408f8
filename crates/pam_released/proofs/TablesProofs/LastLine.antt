-- The last line of a text, over its physical lines.
use Rattle.std.proofs.Common.{◌≡◌, ◌∙◌, ◌==◌, ◌&&◌, ◌||◌, ◌++◌, not, ℕ, Bool, true, false, List, [], ◌∷◌, Some, None, arith, cond, length, map, ap, sym, refl}
use Rattle.std.specs.List.{list_all, onto_first, slice_split}
use Rattle.std.proofs.Math.Bool.{or_assoc}
use Rattle.pam_text.specs.Blanks.{is_text_blank}
use Rattle.pam_text.specs.Cut.{cut_at, is_among}
use Rattle.pam_text.proofs.Splits.{split_found, split_none}
use Rattle.pam_released.specs.Laws.{ManualLines}
use Rattle.pam_released.specs.Lines.{before_hash, continued, ends_in_backslash, has_hash, last_is_space, manual_lines_of, onto_line, pieces}
use Rattle.pam_released.specs.tables.inner.Pieces.{filled_after, front_of, is_filled_by}
use Rattle.pam_released.specs.tables.Times.{ends_in_rule, has_word, last_of}

-- whether the last of some lines has a word, where the first has one before it
abbrev filled_last : Bool → List (List ℕ) → Bool
filled_last filled [] = filled
filled_last filled (line ∷ []) = filled || has_word line
filled_last filled (line ∷ next ∷ lines) = filled_last false (next ∷ lines)

last_word : (lines : List (List ℕ)) → filled_last false lines ≡ has_word (last_of lines)
last_word [] = refl
last_word (line ∷ []) = refl
last_word (line ∷ next ∷ lines) = last_word (next ∷ lines)

words_of_both : (t l : List ℕ) → has_word (t ++ l) ≡ (has_word t || has_word l)
words_of_both [] l = refl
words_of_both (b ∷ t) l =
    elim (is_text_blank b) as (λ (x : Bool). not (x && list_all is_text_blank (t ++ l)) ≡ (not (x && list_all is_text_blank t) || has_word l)) [
      | true ↦ words_of_both t l
      | false ↦ refl
    ]

onto_last : (f : Bool) (t : List ℕ) (lines : List (List ℕ)) → filled_last f (onto_line t lines) ≡ filled_last (f || has_word t) lines
onto_last f t [] = refl
onto_last f t (line ∷ []) = ap (λ (x : Bool). f || x) (words_of_both t line) ∙ sym (or_assoc f (has_word t) (has_word line))
onto_last f t (line ∷ next ∷ lines) = refl

-- the space of a joint is no word
no_word_at_end : (t : List ℕ) → has_word (last_is_space t) ≡ has_word (front_of t)
unfolding last_is_space
no_word_at_end [] = refl
no_word_at_end (b ∷ []) = refl
no_word_at_end (b ∷ c ∷ bs) =
    elim (is_text_blank b) as (λ (x : Bool).
    not (x && list_all is_text_blank (last_is_space (c ∷ bs))) ≡ not (x && list_all is_text_blank (front_of (c ∷ bs)))) [
      | true ↦ no_word_at_end (c ∷ bs)
      | false ↦ refl
    ]

skips_onto : (f : Bool) (t u : List ℕ) (lines : List (List ℕ)) → filled_last f (t ∷ onto_line u lines) ≡ filled_last false (onto_line u lines)
skips_onto f t u [] = refl
skips_onto f t u (line ∷ lines) = refl

-- a line before others does not count
skips : (f : Bool) (t x : List ℕ) (xs : List (List ℕ)) → filled_last f (t ∷ continued (x ∷ xs)) ≡ filled_last false (continued (x ∷ xs))
unfolding continued
skips f t x [] = refl
skips f t x (y ∷ ys) =
    elim (ends_in_backslash x) as (λ (e : Bool). filled_last f (t ∷ cond e (onto_line (last_is_space x) (continued (y ∷ ys))) (x ∷ continued (y ∷ ys)))
    ≡ filled_last false (cond e (onto_line (last_is_space x) (continued (y ∷ ys))) (x ∷ continued (y ∷ ys)))) [
      | true ↦ skips_onto f t (last_is_space x) (continued (y ∷ ys))
      | false ↦ refl
    ]

-- the pieces say whether the last of the lines has a word
is_filled : (f : Bool) (ps : List (List ℕ)) →
    is_filled_by f ps ≡ (not (has_hash (last_of ps)) && filled_last f (continued (map before_hash ps)))
unfolding is_filled_by continued
is_filled f [] = refl
is_filled f (p ∷ []) = refl
is_filled f (p ∷ q ∷ ps) =
    let more = continued (before_hash q ∷ map before_hash ps) in
    is_filled (filled_after f (before_hash p)) (q ∷ ps)
    ∙ ap (λ (x : Bool). not (has_hash (last_of (q ∷ ps))) && x)
    (elim (ends_in_backslash (before_hash p)) as (λ (e : Bool).
    filled_last (e && (f || has_word (front_of (before_hash p)))) more
    ≡ filled_last f (cond e (onto_line (last_is_space (before_hash p)) more) (before_hash p ∷ more))) [
      | true ↦ ap (λ (x : Bool). filled_last (f || x) more) (sym (no_word_at_end (before_hash p)))
          ∙ sym (onto_last f (last_is_space (before_hash p)) more)
      | false ↦ sym (skips f (before_hash p) (before_hash q) (map before_hash ps))
    ])

-- ---- piece by piece

step_onto : (f : Bool) (p : List ℕ) (b : ℕ) (ps : List (List ℕ)) →
    is_filled_by f (p ∷ onto_first b ps) ≡ is_filled_by (filled_after f (before_hash p)) (onto_first b ps)
unfolding is_filled_by
step_onto f p b [] = refl
step_onto f p b (q ∷ ps) = refl

step : (f : Bool) (p : List ℕ) (s : ℕ → Bool) (text : List ℕ) →
    is_filled_by f (p ∷ slice_split s text) ≡ is_filled_by (filled_after f (before_hash p)) (slice_split s text)
unfolding is_filled_by
step f p s [] = refl
step f p s (b ∷ bs) =
    elim (s b) as (λ (e : Bool). is_filled_by f (p ∷ cond e ([] ∷ slice_split s bs) (onto_first b (slice_split s bs)))
    ≡ is_filled_by (filled_after f (before_hash p)) (cond e ([] ∷ slice_split s bs) (onto_first b (slice_split s bs)))) [
      | true ↦ refl
      | false ↦ step_onto f p b (slice_split s bs)
    ]

abbrev pub left : Bool → List ℕ → Bool
left filled text = is_filled_by filled (slice_split (is_among (10 ∷ [])) text)

pub piece_read : (f g whole : Bool) (text a r : List ℕ) → Some (a, r) ≡ cut_at (is_among (10 ∷ [])) text → g ≡ filled_after f (before_hash a) →
    left f text ≡ whole → left g r ≡ whole
piece_read f g whole text a r h is all =
    ap (λ (x : Bool). left x r) is ∙ sym (step f a (is_among (10 ∷ [])) r)
    ∙ sym (ap (λ (ps : List (List ℕ)). is_filled_by f ps) (split_found (is_among (10 ∷ [])) text a r h)) ∙ all

pub all_read : (f whole : Bool) (text : List ℕ) → None ≡ cut_at (is_among (10 ∷ [])) text → left f text ≡ whole →
    is_filled_by f (text ∷ []) ≡ whole
all_read f whole text h all = sym (ap (λ (ps : List (List ℕ)). is_filled_by f ps) (split_none (is_among (10 ∷ [])) text h)) ∙ all

same_feed : (b : ℕ) → is_among (10 ∷ []) b ≡ (b == 10)
unfolding is_among
same_feed b = grind arith

same_pieces : (bs : List ℕ) → slice_split (is_among (10 ∷ [])) bs ≡ pieces bs
same_pieces [] = refl
same_pieces (b ∷ bs) =
    ap (λ (x : Bool). cond x ([] ∷ slice_split (is_among (10 ∷ [])) bs) (onto_first b (slice_split (is_among (10 ∷ [])) bs))) (same_feed b)
    ∙ ap (λ (ps : List (List ℕ)). cond (b == 10) ([] ∷ ps) (onto_first b ps)) (same_pieces bs)

pub ends_so : ManualLines → (bytes : List ℕ) → left false bytes ≡ ends_in_rule bytes
unfolding ends_in_rule
ends_so law bytes =
    ap (λ (ps : List (List ℕ)). is_filled_by false ps) (same_pieces bytes) ∙ is_filled false (pieces bytes)
    ∙ ap (λ (ls : List (List ℕ)). not (has_hash (last_of (pieces bytes))) && filled_last false ls) (sym (law bytes))
    ∙ ap (λ (x : Bool). not (has_hash (last_of (pieces bytes))) && x) (last_word (manual_lines_of bytes))

-- ---- the last byte

pub front_is : (xs : List ℕ) (b : ℕ) → front_of (xs ++ b ∷ []) ≡ xs
front_is [] b = refl
front_is (x ∷ []) b = refl
front_is (x ∷ y ∷ xs) b = ap (λ (r : List ℕ). x ∷ r) (front_is (y ∷ xs) b)

pub no_front : (xs : List ℕ) → length xs ≡ 0 → front_of xs ≡ []
no_front [] h = refl
no_front (x ∷ xs) h = absurd (omega (arith, h))
