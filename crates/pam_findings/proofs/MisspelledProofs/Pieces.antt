-- The pieces of a text, one after another.
use Rattle.std.proofs.Common.{◌≡◌, ◌≤◌, ◌<◌, ◌+◌, ◌-◌, ◌∙◌, ◌++◌, ◌||◌, ℕ, zero, suc, Bool, true, false, not, List, [], ◌∷◌, Option, None, Some}
use Rattle.std.proofs.Common.{length, drop, take, cond, eqb, ap, sym, refl, arith, one-add, length-append, length-drop, get_or, slice_get}
use Rattle.std.proofs.Common.{slice_index_or, subst}
use Rattle.std.proofs.Math.Seq.{drop-append_seam, take-append_seam}
use Rattle.std.proofs.lemmas.List.{append_assoc, drop-drop, length-take-le}
use Rattle.std.proofs.lemmas.List.Sums.{prefix_len-le-length}
use Rattle.std.proofs.lemmas.Option.{slice_get_past}
use Rattle.std.specs.List.{prefix_len}
use Rattle.std.specs.Option.{option_map, option_map_or}
use Rattle.std.proofs.lemmas.Bool.{and_parts, eqb-false, eqb-true}
use Rattle.pam_text.specs.Blanks.{is_text_blank}
use Rattle.pam_text.proofs.Prefixes.{prefix_len-after}
use Rattle.pam_text.proofs.TextSteps.{unequal}
use Rattle.pam_codes.specs.Tokens.{is_word_byte, tokens_of}
use Rattle.pam_codes.proofs.TokensOf.{equals_first, tokens_of-empty, tokens_of-skip, word_first}
use Rattle.pam_conf.specs.Remaining.{words_left}
use Rattle.pam_conf.specs.Words.{IsSplit, nothing, blank, bracketed, plain, has_no_blank, words_of}
use Rattle.pam_conf.proofs.Splits.{is_split, is_words}
use Rattle.pam_findings.specs.misspelled.Pieces.{first_end, first_start, piece_at, piece_start}

-- THE PIECES AFTER THE FIRST

-- the first piece comes after the blanks, and what is left has the other pieces
pub record IsCut (pieces : List ℕ → List (List ℕ)) (text piece : List ℕ) (others : List (List ℕ)) : Type 0 where
  pub within : first_start pieces text + length piece ≤ length text
  pub after : pieces (drop (first_start pieces text + length piece) text) ≡ others
  pub there : take (length piece) (drop (first_start pieces text) text) ≡ piece

abbrev pub shifted : ℕ → ℕ × List ℕ → ℕ × List ℕ
shifted passed piece = (passed + piece.0, piece.1)

two_maps : (end start : ℕ) (found : Option (List ℕ))
    → option_map (λ piece. (end + start, piece)) found ≡ option_map (shifted end) (option_map (λ piece. (start, piece)) found)
two_maps end start None = refl
two_maps end start (Some piece) = refl

pub shifted_twice : (passed end : ℕ) (found : Option (ℕ × List ℕ))
    → option_map (shifted (passed + end)) found ≡ option_map (shifted passed) (option_map (shifted end) found)
shifted_twice passed end None = refl
shifted_twice passed end (Some piece) =
    let sum : passed + end + piece.0 ≡ passed + (end + piece.0) = omega arith in
    ap (λ (start : ℕ). Some (start, piece.1)) sum

pub not_shifted : (found : Option (ℕ × List ℕ)) → option_map (shifted 0) found ≡ found
not_shifted None = refl
not_shifted (Some piece) = let same : 0 + piece.0 ≡ piece.0 = omega arith in ap (λ (start : ℕ). Some (start, piece.1)) same

module _ (pieces : List ℕ → List (List ℕ)) (text : List ℕ) where
  pub no_piece : pieces text ≡ [] → (number : ℕ) → piece_at pieces number text ≡ None
  no_piece is zero = ap (λ (ps : List (List ℕ)). option_map (λ piece. (piece_start pieces 0 text, piece)) (slice_get ps 0)) is
  no_piece is (suc number) =
      ap (λ (ps : List (List ℕ)). option_map (λ piece. (piece_start pieces (suc number) text, piece)) (slice_get ps (suc number))) is

  module _ (piece : List ℕ) (others : List (List ℕ)) (is : pieces text ≡ piece ∷ others) where
    pub this_piece : (number start : ℕ) → number ≡ 0 → start ≡ first_start pieces text → piece_at pieces number text ≡ Some (start, piece)
    unfolding piece_start
    this_piece number start none e =
        rw (none, e) (ap (λ (ps : List (List ℕ)). option_map (λ p. (first_start pieces text, p)) (slice_get ps 0)) is)

    pub later_piece : (number before end : ℕ) (rest : List ℕ) → number ≡ suc before → end ≡ first_start pieces text + length piece → rest ≡ drop end text
        → pieces rest ≡ others → piece_at pieces number text ≡ option_map (shifted end) (piece_at pieces before rest)
    unfolding piece_start
    later_piece number before end rest more e f after =
        let ends : first_end pieces text ≡ end =
        ap (λ (ps : List (List ℕ)). first_start pieces text + length (slice_index_or ps 0 [])) is ∙ sym e in
        let start : piece_start pieces (suc before) text ≡ end + piece_start pieces before rest =
        rw f (ap (λ (n : ℕ). n + piece_start pieces before (drop n text)) ends) in
        rw more (ap (λ (ps : List (List ℕ)). option_map (λ p. (piece_start pieces (suc before) text, p)) (slice_get ps (suc before))) is
        ∙ ap (λ (n : ℕ). option_map (λ p. (n, p)) (slice_get others before)) start
        ∙ ap (λ (ps : List (List ℕ)). option_map (λ p. (end + piece_start pieces before rest, p)) (slice_get ps before)) (sym after)
        ∙ two_maps end (piece_start pieces before rest) (slice_get (pieces rest) before))

-- the piece that is sought in all, as far as its text is read
module _ (pieces : List ℕ → List (List ℕ)) (all rest : List ℕ) (number counter passed : ℕ)
    (there : option_map (shifted passed) (piece_at pieces (number - counter) rest) ≡ piece_at pieces number all) where
  pub sought : counter < number → (piece : List ℕ) (others : List (List ℕ)) (end : ℕ) (after : List ℕ) → pieces rest ≡ piece ∷ others
      → end ≡ first_start pieces rest + length piece → after ≡ drop end rest → pieces after ≡ others
      → option_map (shifted (passed + end)) (piece_at pieces (number - (counter + 1)) after) ≡ piece_at pieces number all
  sought less piece others end after is e f g =
      shifted_twice passed end (piece_at pieces (number - (counter + 1)) after)
      ∙ ap (option_map (shifted passed))
      (sym (later_piece pieces rest piece others is (number - counter) (number - (counter + 1)) end after (omega (arith, less)) e f g))
      ∙ there

  pub found : number ≡ counter → (piece : List ℕ) (others : List (List ℕ)) (start : ℕ) → pieces rest ≡ piece ∷ others
      → start ≡ passed + first_start pieces rest → Some (start, piece) ≡ piece_at pieces number all
  found same piece others start is e =
      rw e (ap (option_map (shifted passed)) (sym (this_piece pieces rest piece others is (number - counter) (first_start pieces rest) (omega (arith, same)) refl))
      ∙ there)

  pub not_found : pieces rest ≡ [] → None ≡ piece_at pieces number all
  not_found none = ap (option_map (shifted passed)) (sym (no_piece pieces rest none (number - counter))) ∙ there

-- WORDS

abbrev Parts : List ℕ → List (List ℕ) → Type 0
Parts text [] = Unit {0}
Parts text (piece ∷ others) = record {
  within : prefix_len is_text_blank text + length piece ≤ length text;
  after : words_of (drop (prefix_len is_text_blank text + length piece) text) ≡ Some others;
  there : take (length piece) (drop (prefix_len is_text_blank text) text) ≡ piece;
}

seam : (text word rest : List ℕ) (ws : List (List ℕ)) → text ≡ word ++ rest → prefix_len is_text_blank text ≡ 0 → IsSplit rest ws → Parts text (word ∷ ws)
seam text word rest ws e z s =
    let size : length text ≡ length word + length rest = ap length e ∙ length-append word rest in
    let sum : prefix_len is_text_blank text + length word ≡ length word = omega (arith, z) in
    record {
      within = omega (arith, z, size);
      after = ap words_of (ap (λ (n : ℕ). drop n text) sum ∙ ap (drop (length word)) e ∙ drop-append_seam word rest) ∙ is_words s;
      there = ap (λ (n : ℕ). take (length word) (drop n text)) z ∙ ap (take (length word)) e ∙ take-append_seam word rest;
    }

after_blank : (b : ℕ) (bs : List ℕ) (ws : List (List ℕ)) → is_text_blank b ≡ true → Parts bs ws → Parts (b ∷ bs) ws
after_blank b bs [] e p = tt
after_blank b bs (w ∷ ws) e p =
    let more : prefix_len is_text_blank (b ∷ bs) ≡ 1 + prefix_len is_text_blank bs = ap (λ (t : Bool). cond t (1 + prefix_len is_text_blank bs) 0) e in
    let sum : 1 + prefix_len is_text_blank bs + length w ≡ suc (prefix_len is_text_blank bs + length w) = omega arith in
    record {
      within = omega (arith, more, p.within);
      after = rw more (rw sum p.after);
      there = rw more (rw one-add p.there);
    }

no_blank : (b : ℕ) (bs : List ℕ) → has_no_blank (b ∷ bs) ≡ true → (rest : List ℕ) → prefix_len is_text_blank (b ∷ rest) ≡ 0
no_blank b bs h rest =
    let parts = and_parts (not (is_text_blank b)) (has_no_blank bs) h in
    elim (is_text_blank b) as (λ (t : Bool). not t ≡ true → cond t (1 + prefix_len is_text_blank rest) 0 ≡ 0) [
      | true ↦ λ e. absurd (cc)
      | false ↦ λ e. refl
    ] parts.0

parts_of : (text : List ℕ) (ws : List (List ℕ)) → IsSplit text ws → Parts text ws
parts_of _ _ nothing = tt
parts_of _ _ (blank b bs ws e s) = after_blank b bs ws e (parts_of bs ws s)
parts_of _ _ (bracketed inside rest ws h s) =
    seam (91 ∷ inside ++ 93 ∷ rest) (91 ∷ inside ++ 93 ∷ []) rest ws (ap (λ (xs : List ℕ). 91 ∷ xs) (sym (append_assoc inside (93 ∷ []) rest))) refl s
parts_of _ _ (plain b bs rest ws n h ends s) = seam (b ∷ bs ++ rest) (b ∷ bs) rest ws refl (no_blank b bs h (bs ++ rest)) s

left_of : (text : List ℕ) (found : Option (List (List ℕ))) (word : List ℕ) (ws : List (List ℕ)) → option_map_or (λ vs. vs) found [] ≡ word ∷ ws
    → found ≡ Some (word ∷ ws)
left_of text None word ws h = absurd (cc)
left_of text (Some vs) word ws h = ap Some h

pub word_cut : (text word : List ℕ) (ws : List (List ℕ)) → words_left text ≡ word ∷ ws → IsCut words_left text word ws
word_cut text word ws h =
    let p : Parts text (word ∷ ws) = parts_of text (word ∷ ws) (is_split text (word ∷ ws) (left_of text (words_of text) word ws h)) in
    record {
      within = p.within;
      after = ap (λ (found : Option (List (List ℕ))). option_map_or (λ vs. vs) found []) p.after;
      there = p.there;
    }

-- TOKENS

token_here : (rest token : List ℕ) (ts : List (List ℕ)) → tokens_of rest ≡ token ∷ ts → prefix_len is_text_blank rest ≡ 0
    → (length token ≤ length rest) × (tokens_of (drop (length token) rest) ≡ ts) × (take (length token) rest ≡ token)
token_here [] token ts h z = absurd (let none : [] ≡ token ∷ ts = sym (tokens_of-empty [] refl) ∙ h in cc)
token_here (b ∷ bs) token ts h z =
    let some : length (b ∷ bs) ≡ 0 → ⊥ = λ e. omega (arith, e) in
    elim (eqb b 61) as (λ (t : Bool).
    eqb b 61 ≡ t → (length token ≤ length (b ∷ bs)) × (tokens_of (drop (length token) (b ∷ bs)) ≡ ts) × (take (length token) (b ∷ bs) ≡ token)) [
      | true ↦ λ e.
          let all : (b ∷ []) ∷ tokens_of bs ≡ token ∷ ts = sym (equals_first (b ∷ bs) (b ∷ []) bs some (eqb-true b 61 e) refl refl) ∙ h in
          let first : b ∷ [] ≡ token = cc in
          let later : tokens_of bs ≡ ts = cc in
          rw (sym first) (omega arith, later, refl)
      | false ↦ λ e.
          let fits : prefix_len is_word_byte (b ∷ bs) ≤ length (b ∷ bs) = prefix_len-le-length is_word_byte (b ∷ bs) in
          let all : take (prefix_len is_word_byte (b ∷ bs)) (b ∷ bs) ∷ tokens_of (drop (prefix_len is_word_byte (b ∷ bs)) (b ∷ bs)) ≡ token ∷ ts =
          sym (word_first (b ∷ bs) _ _ some z (eqb-false b 61 e) refl refl) ∙ h in
          let first : take (prefix_len is_word_byte (b ∷ bs)) (b ∷ bs) ≡ token = cc in
          let later : tokens_of (drop (prefix_len is_word_byte (b ∷ bs)) (b ∷ bs)) ≡ ts = cc in
          let size : length token ≡ prefix_len is_word_byte (b ∷ bs) =
          ap length (sym first) ∙ length-take-le (prefix_len is_word_byte (b ∷ bs)) (b ∷ bs) fits in
          (omega (arith, size, fits), ap (λ (n : ℕ). tokens_of (drop n (b ∷ bs))) size ∙ later, ap (λ (n : ℕ). take n (b ∷ bs)) size ∙ first)
    ] refl

pub token_cut : (text token : List ℕ) (ts : List (List ℕ)) → tokens_of text ≡ token ∷ ts → IsCut tokens_of text token ts
token_cut text token ts h =
    let here = token_here (drop (prefix_len is_text_blank text) text) token ts (sym (tokens_of-skip text) ∙ h) (prefix_len-after is_text_blank text) in
    let size = length-drop (prefix_len is_text_blank text) text in
    let fits : prefix_len is_text_blank text ≤ length text = prefix_len-le-length is_text_blank text in
    record {
      within = omega (arith, here.0, size, fits);
      after = ap tokens_of (sym (drop-drop (length token) (prefix_len is_text_blank text) text)) ∙ here.1;
      there = here.2;
    }

-- THEIR NUMBER

counted : (text : List ℕ) (ws : List (List ℕ)) → IsSplit text ws → length ws ≤ length text
counted _ _ nothing = omega arith
counted _ _ (blank b bs ws e s) = omega (arith, counted bs ws s)
counted _ _ (bracketed inside rest ws h s) = omega (arith, counted rest ws s, length-append inside (93 ∷ rest))
counted _ _ (plain b bs rest ws n h ends s) = omega (arith, counted rest ws s, length-append bs rest)

left_counted : (text : List ℕ) (found : Option (List (List ℕ))) → words_of text ≡ found → length (option_map_or (λ ws. ws) found []) ≤ length text
left_counted text None h = omega arith
left_counted text (Some ws) h = counted text ws (is_split text ws h)

-- a line has no more words than bytes
pub no_such_word : (line : List ℕ) (number : ℕ) → length line ≤ number → None ≡ piece_at words_left number line
no_such_word line number many =
    let few : length (words_left line) ≤ length line = left_counted line (words_of line) refl in
    ap (option_map (λ (word : List ℕ). (piece_start words_left number line, word))) (sym (slice_get_past (words_left line) number (omega (arith, few, many))))
