-- The words that findings are about stand at their spots.
use Rattle.std.proofs.Common.{◌≡◌, ◌≤◌, ◌<◌, ◌+◌, ◌-◌, ◌∙◌, ◌++◌, ◌⊎◌, ◌&&◌, inl, inr, IsTrue, ℕ, zero, suc, Bool, true, false, not, List, [], ◌∷◌, Option, None, Some, length, drop, take, map, nat_eq, reverse, count_by, get_or, slice_get, cond, eqb, ap, sym, refl, arith, add-one, append_assoc, subst}
use Rattle.std.proofs.lemmas.Bool.{and_from, and_parts, cases_eq, cases_lt, eq-eqb, eqb-true}
use Rattle.std.proofs.lemmas.List.{drop-append-le, drop-drop, drop-map, drop_all, drop_more, reverse-append, take-append-drop, take_all, take_more}
use Rattle.std.proofs.lemmas.List.Sums.{common_prefix_len-le, count_by_more_no, count_by_more_yes}
use Rattle.std.proofs.lemmas.Option.{option_and_then_some, slice_get_within}
use Rattle.std.specs.List.{common_prefix_len, list_all}
use Rattle.std.specs.Option.{option_and_then, option_map}
use Rattle.pam_conf.specs.Files.{Folder}
use Rattle.pam_conf.specs.declared.rule.Form.{Form}
use Rattle.pam_text.proofs.TextSteps.{unequal}
use Rattle.pam_text.specs.Text.{FileByte, first_line, text_of}
use Rattle.pam_findings.specs.declared.host.problem.Place.{Place}
use Rattle.pam_findings.specs.declared.host.report.Finding.{Finding}
use Rattle.pam_findings.specs.declared.misspelled.spot.Spot.{Spot}
use Rattle.pam_findings.specs.declared.misspelled.word.Wrong.{Wrong}
use Rattle.pam_findings.specs.misspelled.About.{piece_of}
use Rattle.pam_findings.specs.misspelled.Findings.{spot_in, spotted_in, word_at, wrong_at}
use Rattle.pam_findings.specs.misspelled.Lines.{bytes_of, line_of}
use Rattle.pam_findings.specs.misspelled.Misspelled.{MisspelledText, Right, misspelled_in, with_spot}
use Rattle.pam_findings.specs.misspelled.Spots.{after_feed, after_feeds, from_line, is_feed, line_len, offset_of, spot_after, spot_of}
use Rattle.pam_findings.specs.misspelled.Written.{IsWritten, continues, from_spot, written_at, written_in}
use Rattle.pam_findings.proofs.MisspelledProofs.LinesFrom.{feeds_sum, line_found}
use Rattle.pam_findings.proofs.MisspelledProofs.AboutParts.{piece_part}
use Rattle.pam_findings.proofs.MisspelledProofs.Parts.{IsPart, map_some}
use Rattle.pam_findings.proofs.MisspelledProofs.Written.{Begins, Stands, bytes_in, common, has_no_feed, stands_at}

-- THE LINE AND THE COLUMN OF AN OFFSET

passed_len : (c : ℕ) (bs : List ℕ) → c ≤ line_len bs → line_len bs ≡ c + line_len (drop c bs)
passed_len zero bs h = omega arith
passed_len (suc c) [] h = absurd (omega (arith, h))
passed_len (suc c) (b ∷ bs) h =
    elim (eqb b 10) as (λ (t : Bool). suc c ≤ cond (not t) (1 + line_len bs) 0 → cond (not t) (1 + line_len bs) 0 ≡ suc c + line_len (drop c bs)) [
      | true ↦ λ g. absurd (omega (arith, g))
      | false ↦ λ g. omega (arith, passed_len c bs (omega (arith, g)))
    ] h

-- after the feeds before it, an offset is as far as its column says
record IsThere (passed column : ℕ) (bs rest : List ℕ) : Type 0 where
  near : column ≤ line_len (after_feeds passed bs)
  is : drop column (after_feeds passed bs) ≡ rest

module _ (passed column b : ℕ) (bs rest : List ℕ) (there : IsThere passed column bs (b ∷ rest)) where
  far : line_len (after_feeds passed bs) ≡ column + line_len (b ∷ rest)
  far = passed_len column (after_feeds passed bs) there.near ∙ ap (λ (xs : List ℕ). column + line_len xs) there.is

  past : drop (column + 1) (after_feeds passed bs) ≡ rest
  past = sym (drop-drop 1 column (after_feeds passed bs)) ∙ ap (drop 1) there.is

  past_feed : b ≡ 10 → IsThere (suc passed) 0 bs rest
  unfolding after_feeds
  past_feed e =
      let none : line_len (b ∷ rest) ≡ 0 = ap (λ (t : Bool). cond (not t) (1 + line_len rest) 0) (eq-eqb b 10 e) in
      let here : line_len (after_feeds passed bs) ≡ column = omega (arith, far, none) in
      record { near = omega arith; is = ap (λ (n : ℕ). drop (n + 1) (after_feeds passed bs)) here ∙ past }

  past_other : (b ≡ 10 → ⊥) → IsThere passed (1 + column) bs rest
  past_other n =
      let some : line_len (b ∷ rest) ≡ 1 + line_len rest = ap (λ (t : Bool). cond (not t) (1 + line_len rest) 0) (unequal b 10 n) in
      let sum : 1 + column ≡ column + 1 = omega arith in
      record { near = omega (arith, far, some); is = ap (λ (n : ℕ). drop n (after_feeds passed bs)) sum ∙ past }

abbrev feeds_before : List ℕ → ℕ → ℕ
feeds_before bs offset = count_by is_feed (take offset bs)

abbrev column_at : List ℕ → ℕ → ℕ
column_at bs offset = line_len (reverse (take offset bs))

abbrev At : List ℕ → ℕ → Type 0
At bs offset = IsThere (feeds_before bs offset) (column_at bs offset) bs (drop offset bs)

module _ (bs : List ℕ) (offset : ℕ) (within : offset < length bs) (at : At bs offset) where
  b : ℕ
  b = get_or bs offset 0

  turned : reverse (take (offset + 1) bs) ≡ b ∷ reverse (take offset bs)
  unfolding b
  turned = ap reverse (take_more bs offset 0 within) ∙ reverse-append (take offset bs) (get_or bs offset 0 ∷ [])

  before : IsThere (feeds_before bs offset) (column_at bs offset) bs (b ∷ drop (offset + 1) bs)
  unfolding b
  before = subst (IsThere (feeds_before bs offset) (column_at bs offset) bs) (drop_more bs offset 0 within) at

  one_more : b ≡ 10 → feeds_before bs (offset + 1) ≡ feeds_before bs offset + 1
  unfolding b
  one_more e = count_by_more_yes is_feed bs offset 0 within (eq-eqb (get_or bs offset 0) 10 e)

  no_more : (b ≡ 10 → ⊥) → feeds_before bs (offset + 1) ≡ feeds_before bs offset
  unfolding b
  no_more n = count_by_more_no is_feed bs offset 0 within (unequal (get_or bs offset 0) 10 n)

  next_at : At bs (offset + 1)
  next_at = elim (cases_eq b 10) [
    | inl e ↦
        let column : 0 ≡ column_at bs (offset + 1) =
        sym (ap line_len turned ∙ ap (λ (t : Bool). cond (not t) (1 + column_at bs offset) 0) (eq-eqb b 10 e)) in
        let feeds : suc (feeds_before bs offset) ≡ feeds_before bs (offset + 1) = sym (one_more e ∙ add-one (feeds_before bs offset)) in
        subst (λ (k : ℕ). IsThere k (column_at bs (offset + 1)) bs (drop (offset + 1) bs)) feeds
        (subst (λ (c : ℕ). IsThere (suc (feeds_before bs offset)) c bs (drop (offset + 1) bs)) column
        (past_feed (feeds_before bs offset) (column_at bs offset) b bs (drop (offset + 1) bs) before e))
    | inr n ↦
        let column : 1 + column_at bs offset ≡ column_at bs (offset + 1) =
        sym (ap line_len turned ∙ ap (λ (t : Bool). cond (not t) (1 + column_at bs offset) 0) (unequal b 10 n)) in
        let feeds : feeds_before bs offset ≡ feeds_before bs (offset + 1) = sym (no_more n) in
        subst (λ (k : ℕ). IsThere k (column_at bs (offset + 1)) bs (drop (offset + 1) bs)) feeds
        (subst (λ (c : ℕ). IsThere (feeds_before bs offset) c bs (drop (offset + 1) bs)) column
        (past_other (feeds_before bs offset) (column_at bs offset) b bs (drop (offset + 1) bs) before n))
  ]

at_offset : (offset : ℕ) (bs : List ℕ) → offset ≤ length bs → At bs offset
unfolding after_feeds
at_offset zero bs fits = record { near = omega arith; is = refl }
at_offset (suc offset) bs fits =
    subst (At bs) (add-one offset) (next_at bs offset (omega (arith, fits)) (at_offset offset bs (omega (arith, fits))))

-- past the end it is the end
at_any : (offset : ℕ) (bs : List ℕ) → At bs offset
at_any offset bs = elim (cases_lt (length bs) offset) [
  | inl past ↦
      let all : take (length bs) bs ≡ take offset bs = take_all (length bs) bs (omega arith) ∙ sym (take_all offset bs (omega (arith, past))) in
      let none : drop (length bs) bs ≡ drop offset bs = drop_all (length bs) bs (omega arith) ∙ sym (drop_all offset bs (omega (arith, past))) in
      subst (λ (t : List ℕ). IsThere (count_by is_feed t) (line_len (reverse t)) bs (drop offset bs)) all
      (subst (IsThere (feeds_before bs (length bs)) (column_at bs (length bs)) bs) none (at_offset (length bs) bs (omega arith)))
  | inr fits ↦ at_offset offset bs fits
]

-- the bytes from a spot on
from_there : (file : List ℕ) (number offset : ℕ) (word : List ℕ) → 1 ≤ number
    → from_spot file (spot_after number (from_line number file) word offset) ≡ drop offset (from_line number file)
from_there file number offset word first =
    let bytes = from_line number file in
    let feeds = feeds_before bytes offset in
    let sum : number + feeds - 1 ≡ number - 1 + feeds = omega (arith, first) in
    let column : column_at bytes offset + 1 - 1 ≡ column_at bytes offset = omega arith in
    ap (λ (c : ℕ). drop c (after_feeds (number + feeds - 1) file)) column
    ∙ ap (λ (n : ℕ). drop (column_at bytes offset) (after_feeds n file)) sum
    ∙ ap (drop (column_at bytes offset)) (sym (feeds_sum (number - 1) feeds file))
    ∙ (at_any offset bytes).is

-- A PIECE OF THE FIRST LINE

first_more : (ms : List FileByte) → (more : List ℕ) × (first_line ms ++ more ≡ bytes_in ms)
first_more [] = ([], refl)
first_more (m ∷ ms) =
    let later = first_more ms in
    elim (eqb m.1 10) as (λ (t : Bool). (more : List ℕ) × (cond t [] (m.1 ∷ first_line ms) ++ more ≡ m.1 ∷ bytes_in ms)) [
      | true ↦ (m.1 ∷ bytes_in ms, refl)
      | false ↦ (later.0, ap (λ (bs : List ℕ). m.1 ∷ bs) later.1)
    ]

no_feed_first : (ms : List FileByte) → has_no_feed (first_line ms) ≡ true
no_feed_first [] = refl
no_feed_first (m ∷ ms) =
    elim (eqb m.1 10) as (λ (t : Bool). eqb m.1 10 ≡ t → has_no_feed (cond t [] (m.1 ∷ first_line ms)) ≡ true) [
      | true ↦ λ e. refl
      | false ↦ λ e. rw e (no_feed_first ms)
    ] refl

no_feed_drop : (n : ℕ) (bs : List ℕ) → has_no_feed bs ≡ true → has_no_feed (drop n bs) ≡ true
no_feed_drop zero bs h = h
no_feed_drop (suc n) [] h = refl
no_feed_drop (suc n) (b ∷ bs) h = no_feed_drop n bs (and_parts (not (is_feed b)) (has_no_feed bs) h).1

no_feed_take : (n : ℕ) (bs : List ℕ) → has_no_feed bs ≡ true → has_no_feed (take n bs) ≡ true
no_feed_take zero bs h = refl
no_feed_take (suc n) [] h = refl
no_feed_take (suc n) (b ∷ bs) h =
    let parts = and_parts (not (is_feed b)) (has_no_feed bs) h in
    and_from (not (is_feed b)) (has_no_feed (take n bs)) parts.0 (no_feed_take n bs parts.1)

common_there : (word bs : List ℕ) → take (common word bs) bs ≡ take (common word bs) word
common_there [] bs = refl
common_there (c ∷ word) [] = refl
common_there (c ∷ word) (b ∷ bs) =
    let sum : 1 + common word bs ≡ suc (common word bs) = omega arith in
    elim (eqb c b) as (λ (t : Bool). eqb c b ≡ t
    → take (cond t (1 + common word bs) 0) (b ∷ bs) ≡ take (cond t (1 + common word bs) 0) (c ∷ word)) [
      | true ↦ λ e.
          let same : c ≡ b = eqb-true c b e in
          rw sum (rw same (ap (λ (xs : List ℕ). b ∷ xs) (common_there word bs)))
      | false ↦ λ e. refl
    ] refl

module _ (text : List FileByte) (piece : ℕ × List ℕ) (part : IsPart (first_line text) piece) where
  clean : has_no_feed piece.1 ≡ true
  clean =
      ap has_no_feed (sym part.there)
      ∙ no_feed_take (length piece.1) (drop piece.0 (first_line text)) (no_feed_drop piece.0 (first_line text) (no_feed_first text))

  begins : Begins piece.1 (drop piece.0 text)
  begins =
      let line = first_line text in
      let more = (first_more text).0 in
      let left = drop (length piece.1) (drop piece.0 line) in (
        left ++ more,
        sym (append_assoc piece.1 left more)
            ∙ ap (λ (xs : List ℕ). (xs ++ left) ++ more) (sym part.there)
            ∙ ap (λ (xs : List ℕ). xs ++ more) (take-append-drop (length piece.1) (drop piece.0 line))
            ∙ sym (drop-append-le piece.0 line more (omega (arith, part.within)))
            ∙ ap (drop piece.0) (first_more text).1
            ∙ drop-map (λ m. m.1) piece.0 text,
      )

-- a part of the first line from a number on is written at its spot
written : (file : List ℕ) (number : ℕ) (piece : ℕ × List ℕ) (offset : ℕ) → 1 ≤ number
    → IsPart (first_line (text_of number (from_line number file))) piece → offset_of (from_line number file) piece.0 ≡ Some offset
    → IsWritten file piece.1 (spot_after number (from_line number file) piece.1 offset)
written file number piece offset first part at =
    let bytes = from_line number file in
    let spot = spot_after number bytes piece.1 offset in
    let text = text_of number bytes in
    let stand : Stands piece.1 (drop offset bytes) = stands_at piece.1 bytes number piece.0 offset (clean text piece part) at (begins text piece part) in
    let there : from_spot file spot ≡ drop offset bytes = from_there file number offset piece.1 first in
    record {
      within = (common_prefix_len-le nat_eq piece.1 (drop offset bytes)).0;
      there = ap (take spot.len) there ∙ common_there piece.1 (drop offset bytes);
      whole = elim stand [
        | inl e ↦ inl e
        | inr p ↦ inr (p.0, ap (λ (xs : List ℕ). continues (drop spot.len xs)) there ∙ p.1)
      ];
    }

-- THE WORDS OF FINDINGS

module _ (files : Folder) (right : Right) (outside : List Bool) (entry : Place × Finding) (m : MisspelledText) (spot : Spot) where
  abbrev Standing : Type 0
  Standing = (word : List ℕ) × (written_at files outside entry ≡ Some word) × IsWritten (bytes_of files entry.0.file) word spot

  abbrev from_here : List ℕ
  from_here = from_line entry.0.line (bytes_of files entry.0.file)

  at_piece : (why : Wrong) (line : List ℕ) (piece : ℕ × List ℕ) → wrong_at outside entry ≡ Some why
      → line_of files entry.0.file entry.0.line ≡ Some line → piece_of files.form why line ≡ Some piece
      → spot_of entry.0.line from_here piece ≡ Some spot → Standing
  at_piece why line piece is at found there =
      map_some (spot_after entry.0.line from_here piece.1) (offset_of from_here piece.0) spot there
      (λ offset place same.
      let first = line_found 1 entry.0.line (bytes_of files entry.0.file) line at in
      let part : IsPart (first_line (text_of entry.0.line from_here)) piece =
      subst (λ (bs : List ℕ). IsPart bs piece) first.is (piece_part files.form why line piece found) in
      let told : written_at files outside entry ≡ Some piece.1 =
      ap (option_and_then (λ w. option_and_then (λ l. written_in files.form l w) (line_of files entry.0.file entry.0.line))) is
      ∙ ap (option_and_then (λ l. written_in files.form l why)) at
      ∙ ap (option_map (λ p. p.1)) found in (
        piece.1,
        told,
        subst (IsWritten (bytes_of files entry.0.file) piece.1) same
            (written (bytes_of files entry.0.file) entry.0.line piece offset first.below part place),
      ))

  pub words_stand : word_at files right outside entry ≡ Some m → m.spot ≡ Some spot → Standing
  unfolding word_at
  words_stand h spotted =
      option_and_then_some (λ why. option_and_then (spotted_in files right entry.0 why) (line_of files entry.0.file entry.0.line))
      (wrong_at outside entry) m h
      (λ why is got.
      option_and_then_some (spotted_in files right entry.0 why) (line_of files entry.0.file entry.0.line) m got
      (λ line at text.
      map_some (with_spot (spot_in files entry.0 why line)) (misspelled_in right files.form why line) m text
      (λ told in_line same.
      let spot_is : spot_in files entry.0 why line ≡ Some spot = ap (λ (t : MisspelledText). t.spot) same ∙ spotted in
      option_and_then_some (spot_of entry.0.line from_here) (piece_of files.form why line) spot spot_is
      (λ piece found there. at_piece why line piece is at found there))))
