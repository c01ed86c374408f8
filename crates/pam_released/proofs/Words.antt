-- The words of a line by released Linux-PAM are those of the manual pages.
use Rattle.std.proofs.Common.{◌≡◌, ◌&&◌, ◌||◌, ◌++◌, ◌-◌, ◌∙◌, ℕ, Bool, true, false, not, List, [], ◌∷◌, map, take, length, cond, eqb, ap, sym, refl}
use Rattle.std.proofs.Common.{Option, Some, None, subst}
use Rattle.std.proofs.Common.{arith}
use Rattle.std.specs.List.{list_all, list_any, onto_first}
use Rattle.std.specs.Option.{option_map}
use Rattle.std.proofs.lemmas.Bool.{and_parts, or_parts, eqb-true, ne_eqb}
use Rattle.std.proofs.lemmas.List.{length_push}
use Rattle.pam_codes.specs.Tokens.{is_blank}
use Rattle.pam_conf.specs.Words.{Between, words_of, unescaped, text_of_word, is_inside, has_no_blank, EndsWord, at_end, at_blank, IsSplit, nothing, blank}
use Rattle.pam_conf.specs.Words.{bracketed, plain}
use Rattle.pam_conf.proofs.Splits.{is_split}
use Rattle.pam_released.specs.Lines.{before_hash, continued, ends_in_backslash, filled, is_space_or_tab, last_is_space, lines_152, manual_lines_of}
use Rattle.pam_released.specs.Lines.{not_empty, onto_line, physical_lines}
use Rattle.pam_released.proofs.LineTests.{has_dropped_blank, is_line_read_otherwise}
use Rattle.pam_released.specs.Buffer.{buffered}
use Rattle.pam_released.specs.Numbered.{NumberedLine, numbered_lines}
use Rattle.pam_released.specs.Words.{Outside, Word, Inside, line_feed, line_words, texts_in, released_words, words_152, words_170}
use Rattle.pam_released.specs.declared.release.Release.TheVariants.{Older, Newer}
use Rattle.pam_released.proofs.Unnumbered.{texts_152, texts_170, texts_only}
use Rattle.pam_released.proofs.LineFacts.{text_blank}
use Rattle.pam_released.proofs.Lines152.{IsEnd, alone, followed, manual_by_lines, lines_alike}
use Rattle.pam_released.proofs.Lines152 as lines
use Rattle.pam_released.proofs.Lines170.{Same, ends, line, lines_same, both_clean, space_clean, words_same}

abbrev Clean : List ℕ → Type 0
Clean bs = list_any (λ b. eqb b 13) bs ≡ false

clean_parts : (x y : List ℕ) → list_any (λ b. eqb b 13) (x ++ y) ≡ false → (list_any (λ b. eqb b 13) x ≡ false) × (list_any (λ b. eqb b 13) y ≡ false)
clean_parts [] y h = (refl, h)
clean_parts (b ∷ x) y h =
    let parts = or_parts (eqb b 13) (list_any (λ d. eqb d 13) (x ++ y)) h in
    let rest = clean_parts x y parts.1 in (rw parts.0 rest.0, rest.1)

closes : (feed rest : List ℕ) → texts_in feed Inside (93 ∷ rest) ≡ [] ∷ texts_in feed Outside rest
unfolding texts_in
closes feed [] = refl
closes feed (c ∷ rest) = refl

stays : (feed : List ℕ) (b c : ℕ) (bs : List ℕ) → eqb b 93 ≡ false → (eqb b 92 && eqb c 93) ≡ false →
    texts_in feed Inside (b ∷ c ∷ bs) ≡ onto_first b (texts_in feed Inside (c ∷ bs))
unfolding texts_in
stays feed b c bs h k = rw h (rw k refl)

escapes : (feed bs : List ℕ) → texts_in feed Inside (92 ∷ 93 ∷ bs) ≡ onto_first 93 (texts_in feed Inside bs)
unfolding texts_in
escapes feed bs = refl

not_closing : (t : Bool) → (not t || false) ≡ true → t ≡ false
not_closing true h = sym h
not_closing false h = refl

not_true : (t : Bool) → not t ≡ true → t ≡ false
not_true true h = sym h
not_true false h = refl

no_escape : (t u : Bool) → t ≡ false → (t && u) ≡ false
no_escape t u h = rw h refl

-- inside where the byte before is no backslash, or the next one no bracket
still_inside : (e : Bool) (c : ℕ) (bs : List ℕ) → (e && eqb c 93) ≡ false → is_inside e (c ∷ bs) ≡ true → is_inside false (c ∷ bs) ≡ true
unfolding is_inside
still_inside false c bs k h = h
still_inside true c bs k h = rw k (and_parts (not (eqb c 93) || true) (is_inside (eqb c 92) bs) h).1

after_escape : (bs : List ℕ) → is_inside true (93 ∷ bs) ≡ true → is_inside false bs ≡ true
unfolding is_inside
after_escape bs h = h

unescaped_more : (b c : ℕ) (bs : List ℕ) → (eqb b 92 && eqb c 93) ≡ false → unescaped (b ∷ c ∷ bs) ≡ b ∷ unescaped (c ∷ bs)
unfolding unescaped
unescaped_more b c bs h = rw h refl

unescaped_pair : (bs : List ℕ) → unescaped (92 ∷ 93 ∷ bs) ≡ 93 ∷ unescaped bs
unfolding unescaped
unescaped_pair bs = refl

inside_parts : (b : ℕ) (bs : List ℕ) → is_inside false (b ∷ bs) ≡ true → (eqb b 93 ≡ false) × (is_inside (eqb b 92) bs ≡ true)
unfolding is_inside
inside_parts b bs h = let parts = and_parts (not (eqb b 93) || false) (is_inside (eqb b 92) bs) h in (not_closing (eqb b 93) parts.0, parts.1)

nothing_inside : (e : Bool) → is_inside e [] ≡ true → e ≡ false
unfolding is_inside
nothing_inside e h = not_true e h

unescaped_none : unescaped [] ≡ []
unfolding unescaped
unescaped_none = refl

unescaped_one : (b : ℕ) → unescaped (b ∷ []) ≡ b ∷ []
unfolding unescaped
unescaped_one b = refl

inside_text : (feed bs rest : List ℕ) → is_inside false bs ≡ true → texts_in feed Inside (bs ++ 93 ∷ rest) ≡ unescaped bs ∷ texts_in feed Outside rest
inside_text feed [] rest h = closes feed rest ∙ ap (λ (r : List ℕ). r ∷ texts_in feed Outside rest) (sym unescaped_none)
inside_text feed (b ∷ []) rest h =
    let parts = inside_parts b [] h in
    stays feed b 93 rest parts.0 (no_escape (eqb b 92) true (nothing_inside (eqb b 92) parts.1)) ∙ ap (onto_first b) (closes feed rest)
    ∙ ap (λ (r : List ℕ). r ∷ texts_in feed Outside rest) (sym (unescaped_one b))
inside_text feed (b ∷ c ∷ bs) rest h =
    let parts = inside_parts b (c ∷ bs) h in
    elim (eqb b 92 && eqb c 93) as (λ (t : Bool). (eqb b 92 && eqb c 93) ≡ t →
    texts_in feed Inside (b ∷ c ∷ bs ++ 93 ∷ rest) ≡ unescaped (b ∷ c ∷ bs) ∷ texts_in feed Outside rest) [
      | true ↦ λ e.
          let two = and_parts (eqb b 92) (eqb c 93) e in
          let slash : b ≡ 92 = eqb-true b 92 two.0 in
          let close : c ≡ 93 = eqb-true c 93 two.1 in
          let more : is_inside false bs ≡ true = after_escape bs (ap (λ (d : ℕ). is_inside true (d ∷ bs)) (sym close)
          ∙ ap (λ (t : Bool). is_inside t (c ∷ bs)) (sym two.0) ∙ parts.1) in
          rw (slash, close) (escapes feed (bs ++ 93 ∷ rest) ∙ ap (onto_first 93) (inside_text feed bs rest more)
          ∙ ap (λ (r : List ℕ). r ∷ texts_in feed Outside rest) (sym (unescaped_pair bs)))
      | false ↦ λ e.
          stays feed b c (bs ++ 93 ∷ rest) parts.0 e ∙ ap (onto_first b) (inside_text feed (c ∷ bs) rest (still_inside (eqb b 92) c bs e parts.1))
          ∙ ap (λ (r : List ℕ). r ∷ texts_in feed Outside rest) (sym (unescaped_more b c bs e))
    ] refl

c_blank : (b : ℕ) → eqb b 13 ≡ false → is_blank b ≡ true → is_space_or_tab b ≡ true
c_blank b h k = text_blank b h ∙ k

c_no_blank : (b : ℕ) → eqb b 13 ≡ false → not (is_blank b) ≡ true → is_space_or_tab b ≡ false
c_no_blank b h k = text_blank b h ∙ not_true (is_blank b) k

past_blank : (feed : List ℕ) (b : ℕ) (bs : List ℕ) → is_space_or_tab b ≡ true → texts_in feed Outside (b ∷ bs) ≡ texts_in feed Outside bs
unfolding texts_in
past_blank feed b bs h = rw h refl

word_ends : (feed rest : List ℕ) → Clean rest → EndsWord rest → texts_in feed Word rest ≡ [] ∷ texts_in feed Outside rest
unfolding texts_in
word_ends feed rest c at_end = refl
word_ends feed rest c (at_blank b bs e) =
    let parts = or_parts (eqb b 13) (list_any (λ d. eqb d 13) bs) c in
    rw (c_blank b parts.0 e) refl

word_more : (feed : List ℕ) (b : ℕ) (bs : List ℕ) → is_space_or_tab b ≡ false → texts_in feed Word (b ∷ bs) ≡ onto_first b (texts_in feed Word bs)
unfolding texts_in
word_more feed b bs h = rw h refl

word_text : (feed bs rest : List ℕ) → has_no_blank bs ≡ true → Clean bs → Clean rest → EndsWord rest →
    texts_in feed Word (bs ++ rest) ≡ bs ∷ texts_in feed Outside rest
word_text feed [] rest h c d e = word_ends feed rest d e
word_text feed (b ∷ bs) rest h c d e =
    let parts = and_parts (not (is_blank b)) (has_no_blank bs) h in
    let clean = or_parts (eqb b 13) (list_any (λ x. eqb x 13) bs) c in
    word_more feed b (bs ++ rest) (c_no_blank b clean.0 parts.0) ∙ ap (onto_first b) (word_text feed bs rest parts.1 clean.1 d e)

word_begins : (feed : List ℕ) (b : ℕ) (bs : List ℕ) → is_space_or_tab b ≡ false → eqb b 91 ≡ false →
    texts_in feed Outside (b ∷ bs) ≡ onto_first b (texts_in feed Word bs)
unfolding texts_in
word_begins feed b bs h k = rw h (rw k refl)

bracket_begins : (feed bs : List ℕ) → texts_in feed Outside (91 ∷ bs) ≡ texts_in feed Inside bs
unfolding texts_in
bracket_begins feed bs = refl

none : (feed : List ℕ) → texts_in feed Outside [] ≡ []
unfolding texts_in
none feed = refl

take_whole : (bs rest : List ℕ) → take (length bs) (bs ++ rest) ≡ bs
take_whole [] rest = refl
take_whole (c ∷ bs) rest = ap (λ (r : List ℕ). c ∷ r) (take_whole bs rest)

take_front : (bs : List ℕ) (b : ℕ) → take (length (bs ++ b ∷ []) - 1) (bs ++ b ∷ []) ≡ bs
take_front bs b =
    let less : length (bs ++ b ∷ []) - 1 ≡ length bs = omega (arith, length_push bs b) in
    ap (λ (n : ℕ). take n (bs ++ b ∷ [])) less ∙ take_whole bs (b ∷ [])

pub bracket_text : (bs : List ℕ) → text_of_word (91 ∷ bs ++ 93 ∷ []) ≡ unescaped bs
bracket_text bs = ap unescaped (take_front bs 93)

pub plain_text : (b : ℕ) (bs : List ℕ) → eqb b 91 ≡ false → text_of_word (b ∷ bs) ≡ b ∷ bs
plain_text b bs h = rw h refl

by_split : (feed : List ℕ) {line : List ℕ} {ws : List (List ℕ)} → IsSplit line ws → Clean line → released_words feed line ≡ map text_of_word ws
by_split feed nothing c = none feed
by_split feed (blank b bs ws e s) c =
    let parts = or_parts (eqb b 13) (list_any (λ x. eqb x 13) bs) c in
    past_blank feed b bs (c_blank b parts.0 e) ∙ by_split feed s parts.1
by_split feed (bracketed inside rest ws h s) c =
    let parts = clean_parts inside (93 ∷ rest) c in
    bracket_begins feed (inside ++ 93 ∷ rest) ∙ inside_text feed inside rest h
    ∙ ap (λ (r : List (List ℕ)). unescaped inside ∷ r) (by_split feed s parts.1)
    ∙ ap (λ (r : List ℕ). r ∷ map text_of_word ws) (sym (bracket_text inside))
by_split feed (plain b bs rest ws n h e s) c =
    let parts = clean_parts (b ∷ bs) rest c in
    let first = or_parts (eqb b 13) (list_any (λ x. eqb x 13) bs) parts.0 in
    let blanks = and_parts (not (is_blank b)) (has_no_blank bs) h in
    word_begins feed b (bs ++ rest) (c_no_blank b first.0 blanks.0) (ne_eqb b 91 n)
    ∙ ap (onto_first b) (word_text feed bs rest blanks.1 first.1 parts.1 e)
    ∙ ap (λ (r : List (List ℕ)). (b ∷ bs) ∷ r) (by_split feed s parts.1)
    ∙ ap (λ (r : List ℕ). r ∷ map text_of_word ws) (sym (plain_text b bs (ne_eqb b 91 n)))

pub words_alike : (feed line : List ℕ) (words : List (List ℕ)) → list_any (λ b. eqb b 13) line ≡ false → words_of line ≡ Some words →
    released_words feed line ≡ map text_of_word words
words_alike feed l words c h = by_split feed (is_split l words h) c

-- THE LINES OF A FILE

abbrev AllClean : List (List ℕ) → Type 0
AllClean [] = Unit {0}
AllClean (l ∷ ls) = (list_any (λ b. eqb b 13) l ≡ false) × AllClean ls

clean_onto : (t : List ℕ) (ls : List (List ℕ)) → Clean t → AllClean ls → AllClean (onto_line t ls)
clean_onto t [] c a = (c, tt)
clean_onto t (l ∷ ls) c a = (both_clean t l c a.0, a.1)

clean_continued : (ls : List (List ℕ)) → AllClean ls → AllClean (continued ls)
unfolding continued
clean_continued [] a = tt
clean_continued (l ∷ []) a = a
clean_continued (l ∷ k ∷ ls) a =
    elim (ends_in_backslash l) as (λ (t : Bool). AllClean (cond t (onto_line (last_is_space l) (continued (k ∷ ls))) (l ∷ continued (k ∷ ls)))) [
      | true ↦ clean_onto (last_is_space l) (continued (k ∷ ls)) (space_clean l a.0) (clean_continued (k ∷ ls) a.1)
      | false ↦ (a.0, clean_continued (k ∷ ls) a.1)
    ]

clean_filled : (ls : List (List ℕ)) → AllClean ls → AllClean (filled ls)
unfolding filled
clean_filled [] a = tt
clean_filled (l ∷ ls) a =
    elim (list_all is_blank l) as (λ (t : Bool). AllClean (cond t (filled ls) (l ∷ filled ls))) [
      | true ↦ clean_filled ls a.1
      | false ↦ (a.0, clean_filled ls a.1)
    ]

clean_end : (e : List (List ℕ)) → IsEnd e → AllClean e
clean_end e lines.nothing = tt
clean_end e lines.empty = (refl, tt)

clean_lines : (ls e : List (List ℕ)) → IsEnd e → is_line_read_otherwise ls ≡ false → AllClean (map before_hash ls ++ e)
clean_lines [] e is q = clean_end e is
clean_lines (l ∷ []) e is q = let (a, g) = alone l q in (a.clean, clean_end e is)
clean_lines (l ∷ k ∷ ls) e is q = let (a, over, rest) = followed l k ls q in (a.clean, clean_lines (k ∷ ls) e is rest)

clean_manual : (bs : List ℕ) → is_line_read_otherwise (physical_lines bs) ≡ false → AllClean (filled (manual_lines_of bs))
clean_manual bs q =
    let (e, is, same) = manual_by_lines bs in
    rw same (clean_filled (continued (map before_hash (physical_lines bs) ++ e))
    (clean_continued (map before_hash (physical_lines bs) ++ e) (clean_lines (physical_lines bs) e is q)))

-- whether line feeds end them or not
all_words : (ns : List NumberedLine) (words : List (List (List ℕ))) → AllClean (map (λ n. n.text) ns) →
    map words_of (map (λ n. n.text) ns) ≡ map (λ ws. Some ws) words → map line_words ns ≡ map (map text_of_word) words
all_words [] [] a h = refl
all_words [] (w ∷ words) a h = absurd (cc)
all_words (n ∷ ns) [] a h = absurd (cc)
all_words (n ∷ ns) (w ∷ words) a h =
    let one : words_of n.text ≡ Some w = cc in
    let more : map words_of (map (λ m. m.text) ns) ≡ map (λ ws. Some ws) words = cc in
    ap (λ (r : List (List ℕ)). r ∷ map line_words ns) (words_alike (line_feed n.is_fed) n.text w a.0 one)
    ∙ ap (λ (r : List (List (List ℕ))). map text_of_word w ∷ r) (all_words ns words a.1 more)

-- numbered lines with these texts
words_read : (o : Option (List NumberedLine)) (ls : List (List ℕ)) (words : List (List (List ℕ))) → texts_only o ≡ Some ls → AllClean ls →
    map words_of ls ≡ map (λ ws. Some ws) words → option_map (map line_words) o ≡ Some (map (map text_of_word) words)
words_read None ls words is a h = absurd (cc)
words_read (Some ns) ls words is a h =
    let same : map (λ n. n.text) ns ≡ ls = cc in
    ap (λ (r : List (List (List ℕ))). Some r) (all_words ns words (subst AllClean (sym same) a) (ap (map words_of) same ∙ h))

pub file_words_152 : (bs : List ℕ) (words : List (List (List ℕ))) → is_line_read_otherwise (physical_lines bs) ≡ false →
    buffered [] [] false bs ≡ lines_152 false (physical_lines bs) →
    map words_of (filled (manual_lines_of bs)) ≡ map (λ ws. Some ws) words → words_152 bs ≡ Some (map (map text_of_word) words)
file_words_152 bs words q unseen h =
    words_read (numbered_lines Older bs) (filled (manual_lines_of bs)) words (texts_152 bs ∙ unseen ∙ lines_alike bs q) (clean_manual bs q) h

clean_same : {xs ys : List (List ℕ)} → Same xs ys → AllClean (not_empty xs)
unfolding not_empty
clean_same (ends e is) = tt
clean_same (line [] y xs ys a more) = clean_same more
clean_same (line (b ∷ x) y xs ys a more) = (a.clean, clean_same more)

pub file_words_170 : (bs : List ℕ) (words : List (List (List ℕ))) → is_line_read_otherwise (physical_lines bs) ≡ false →
    has_dropped_blank Between (physical_lines bs) ≡ false →
    map words_of (filled (manual_lines_of bs)) ≡ map (λ ws. Some ws) words →
    words_170 bs ≡ Some (map (map text_of_word) words)
file_words_170 bs words q d h =
    let (xs, released, alike) = lines_same bs q d in
    words_read (numbered_lines Newer bs) (not_empty xs) words (texts_170 bs ∙ ap (option_map not_empty) released) (clean_same alike)
    (words_same alike ∙ h)
