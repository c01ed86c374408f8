-- What a scan of bytes finds, in the words of the definitions.
use Rattle.std.proofs.Common.{◌≡◌, ◌<◌, ◌≤◌, ◌+◌, ◌&&◌, ◌||◌, ◌++◌, ◌∙◌, ℕ, Bool, true, false, not, List, [], ◌∷◌, take, drop, length, cond, eqb, ap, sym}
use Rattle.std.proofs.Common.{refl, arith, add-one, one-add, append_assoc, drop-cons, get_or}
use Rattle.std.specs.List.{list_all, list_any, onto_first, prefix_len}
use Rattle.std.proofs.lemmas.Bool.{and_parts, or_parts, eq-eqb, ne_eqb}
use Rattle.std.proofs.lemmas.List.{drop_all}
use Rattle.pam_codes.specs.Tokens.{is_blank}
use Rattle.pam_conf.specs.Words.{State, Between, Plain, Bracket}
use Rattle.pam_released.specs.Bracket.{after, begins_in_blank, part, state_after}
use Rattle.pam_released.specs.Findings.{after_last_slash, before_last_dot, ends_in_blank}
use Rattle.pam_released.specs.Lines.{before_hash, ends_in_backslash, ends_in_feed, front_part, goes_on, has_hash, is_space_or_tab, last_is_space}
use Rattle.pam_released.specs.Lines.{physical_lines}
use Rattle.pam_released.specs.Lines.{without_end_blanks}
use Rattle.pam_released.specs.Numbered.{is_fed_before}
use Rattle.pam_released.specs.inner.NextState.{next_state}

-- LINES

abbrev is_no_feed : ℕ → Bool
is_no_feed b = not (eqb b 10)

pub first_line : (b : ℕ) (bs : List ℕ) → physical_lines (b ∷ bs) ≡
    take (prefix_len (λ c. not (eqb c 10)) (b ∷ bs)) (b ∷ bs)
    ∷ physical_lines (drop 1 (drop (prefix_len (λ c. not (eqb c 10)) (b ∷ bs)) (b ∷ bs)))
unfolding physical_lines
first_line b [] =
    elim (eqb b 10) as (λ (t : Bool). cond t ([] ∷ []) (onto_first b []) ≡
    take (cond (not t) 1 0) (b ∷ []) ∷ physical_lines (drop 1 (drop (cond (not t) 1 0) (b ∷ [])))) [ true ↦ refl | false ↦ refl ]
first_line b (c ∷ bs) =
    elim (eqb b 10) as (λ (t : Bool). cond t ([] ∷ physical_lines (c ∷ bs)) (onto_first b (physical_lines (c ∷ bs))) ≡
    take (cond (not t) (1 + prefix_len is_no_feed (c ∷ bs)) 0) (b ∷ c ∷ bs)
    ∷ physical_lines (drop 1 (drop (cond (not t) (1 + prefix_len is_no_feed (c ∷ bs)) 0) (b ∷ c ∷ bs)))) [
      | true ↦ refl
      | false ↦ rw one-add (ap (onto_first b) (first_line c bs))
    ]

pub no_lines : (bs : List ℕ) → length bs ≡ 0 → physical_lines bs ≡ []
unfolding physical_lines
no_lines [] h = refl
no_lines (b ∷ bs) h = absurd (omega (arith, h))

pub some_bytes : (bs : List ℕ) → eqb (length bs) 0 ≡ false → length bs ≡ 0 → ⊥
some_bytes bs h k = let e : true ≡ false = sym (eq-eqb (length bs) 0 k) ∙ h in absurd (cc)

line_and_more : (bs : List ℕ) → (length bs ≡ 0 → ⊥) → physical_lines bs ≡
    take (prefix_len (λ c. not (eqb c 10)) bs) bs ∷ physical_lines (drop 1 (drop (prefix_len (λ c. not (eqb c 10)) bs) bs))
line_and_more [] h = absurd (h refl)
line_and_more (b ∷ bs) h = first_line b bs

-- the first of some lines, and the bytes after its line feed
pub cut_line : (bs : List ℕ) (n : ℕ) (line back more : List ℕ) → (length bs ≡ 0 → ⊥) → n ≡ prefix_len (λ c. not (eqb c 10)) bs →
    line ≡ take n bs → back ≡ drop n bs → more ≡ drop 1 back → physical_lines bs ≡ line ∷ physical_lines more
cut_line bs n line back more some is front rest after =
    line_and_more bs some ∙ ap (λ (k : ℕ). take k bs ∷ physical_lines (drop 1 (drop k bs))) (sym is)
    ∙ ap (λ (l : List ℕ). l ∷ physical_lines (drop 1 (drop n bs))) (sym front)
    ∙ ap (λ (r : List ℕ). line ∷ physical_lines (drop 1 r)) (sym rest)
    ∙ ap (λ (r : List ℕ). line ∷ physical_lines r) (sym after)

-- a line that no line feed ends
pub last_line : (bs : List ℕ) (n : ℕ) (line back : List ℕ) → (length bs ≡ 0 → ⊥) → n ≡ prefix_len (λ c. not (eqb c 10)) bs →
    line ≡ take n bs → back ≡ drop n bs → length back ≡ 0 → physical_lines bs ≡ line ∷ physical_lines back
last_line bs n line [] some is front rest e = cut_line bs n line [] [] some is front rest refl
last_line bs n line (b ∷ back) some is front rest e = absurd (omega (arith, e))

pub text_is : (bs : List ℕ) → take (prefix_len (λ b. not (eqb b 35)) bs) bs ≡ before_hash bs
unfolding before_hash
text_is [] = refl
text_is (b ∷ bs) =
    elim (eqb b 35) as (λ (t : Bool). take (cond (not t) (1 + prefix_len (λ c. not (eqb c 35)) bs) 0) (b ∷ bs) ≡ cond t [] (b ∷ before_hash bs)) [
      | true ↦ refl
      | false ↦ rw one-add (ap (λ (r : List ℕ). b ∷ r) (text_is bs))
    ]

-- THE LAST BYTE

pub last_backslash : (xs : List ℕ) (b : ℕ) → ends_in_backslash (xs ++ b ∷ []) ≡ eqb b 92
unfolding ends_in_backslash
last_backslash [] b = refl
last_backslash (c ∷ []) b = refl
last_backslash (c ∷ d ∷ xs) b = last_backslash (d ∷ xs) b

pub nothing_last_backslash : (xs : List ℕ) → length xs ≡ 0 → ends_in_backslash xs ≡ false
unfolding ends_in_backslash
nothing_last_backslash [] h = refl
nothing_last_backslash (b ∷ xs) h = absurd (omega (arith, h))

pub last_feed : (xs : List ℕ) (b : ℕ) → ends_in_feed (xs ++ b ∷ []) ≡ eqb b 10
unfolding ends_in_feed
last_feed [] b = refl
last_feed (c ∷ []) b = refl
last_feed (c ∷ d ∷ xs) b = last_feed (d ∷ xs) b

pub nothing_last_feed : (xs : List ℕ) → length xs ≡ 0 → ends_in_feed xs ≡ false
unfolding ends_in_feed
nothing_last_feed [] h = refl
nothing_last_feed (b ∷ xs) h = absurd (omega (arith, h))

pub nothing_last_blank : (xs : List ℕ) → length xs ≡ 0 → ends_in_blank xs ≡ false
unfolding ends_in_blank
nothing_last_blank [] h = refl
nothing_last_blank (b ∷ xs) h = absurd (omega (arith, h))

pub last_blank : (xs : List ℕ) (b : ℕ) → ends_in_blank (xs ++ b ∷ []) ≡ is_space_or_tab b
unfolding ends_in_blank
last_blank [] b = refl
last_blank (c ∷ []) b = refl
last_blank (c ∷ d ∷ xs) b = last_blank (d ∷ xs) b

pub last_spaced : (xs : List ℕ) (b : ℕ) → last_is_space (xs ++ b ∷ []) ≡ xs ++ 32 ∷ []
unfolding last_is_space
last_spaced [] b = refl
last_spaced (c ∷ []) b = refl
last_spaced (c ∷ d ∷ xs) b = ap (λ (r : List ℕ). c ∷ r) (last_spaced (d ∷ xs) b)

all_last : (xs : List ℕ) (b : ℕ) → list_all is_space_or_tab (xs ++ b ∷ []) ≡ (list_all is_space_or_tab xs && is_space_or_tab b)
all_last [] b = elim (is_space_or_tab b) as (λ (t : Bool). (t && true) ≡ (true && t)) [ true ↦ refl | false ↦ refl ]
all_last (c ∷ xs) b =
    ap (λ (t : Bool). is_space_or_tab c && t) (all_last xs b) ∙ grouped (is_space_or_tab c) (list_all is_space_or_tab xs) (is_space_or_tab b)
  where
    grouped : (t u v : Bool) → (t && (u && v)) ≡ ((t && u) && v)
    grouped true u v = refl
    grouped false u v = refl

and_true : (t u : Bool) → u ≡ true → (t && u) ≡ t
and_true true u h = h
and_true false u h = refl

and_false : (t u : Bool) → u ≡ false → (t && u) ≡ false
and_false true u h = h
and_false false u h = refl

pub blank_dropped : (xs : List ℕ) (b : ℕ) → is_space_or_tab b ≡ true → without_end_blanks (xs ++ b ∷ []) ≡ without_end_blanks xs
unfolding without_end_blanks
blank_dropped [] b h = rw h refl
blank_dropped (c ∷ xs) b h =
    ap (λ (t : Bool). cond t [] (c ∷ without_end_blanks (xs ++ b ∷ [])))
    (all_last (c ∷ xs) b ∙ and_true (list_all is_space_or_tab (c ∷ xs)) (is_space_or_tab b) h)
    ∙ ap (λ (r : List ℕ). cond (list_all is_space_or_tab (c ∷ xs)) [] (c ∷ r)) (blank_dropped xs b h)

pub byte_kept : (xs : List ℕ) (b : ℕ) → is_space_or_tab b ≡ false → without_end_blanks (xs ++ b ∷ []) ≡ xs ++ b ∷ []
unfolding without_end_blanks
byte_kept [] b h = rw h refl
byte_kept (c ∷ xs) b h =
    ap (λ (t : Bool). cond t [] (c ∷ without_end_blanks (xs ++ b ∷ [])))
    (all_last (c ∷ xs) b ∙ and_false (list_all is_space_or_tab (c ∷ xs)) (is_space_or_tab b) h)
    ∙ ap (λ (r : List ℕ). c ∷ r) (byte_kept xs b h)

pub no_bytes : (xs : List ℕ) → length xs ≡ 0 → without_end_blanks xs ≡ xs
unfolding without_end_blanks
no_bytes [] h = refl
no_bytes (b ∷ xs) h = absurd (omega (arith, h))

-- WORDS

pub after_byte : (s : State) (b : ℕ) (bs : List ℕ) → after s (b ∷ bs) ≡ after (next_state s b) bs
unfolding after
after_byte Between b bs =
    elim (is_blank b) as (λ (t : Bool). cond t (after Between bs) (cond (eqb b 91) (after (Bracket false) bs) (after Plain bs))
    ≡ after (cond t Between (cond (eqb b 91) (Bracket false) Plain)) bs) [
      | true ↦ refl
      | false ↦ elim (eqb b 91) as (λ (t : Bool). cond t (after (Bracket false) bs) (after Plain bs) ≡ after (cond t (Bracket false) Plain) bs) [
        | true ↦ refl
        | false ↦ refl
      ]
    ]
after_byte Plain b bs =
    elim (is_blank b) as (λ (t : Bool). cond t (after Between bs) (after Plain bs) ≡ after (cond t Between Plain) bs) [ true ↦ refl | false ↦ refl ]
after_byte (Bracket e) b bs =
    elim (eqb b 93 && not e) as (λ (t : Bool). cond t (after Between bs) (after (Bracket (eqb b 92)) bs)
    ≡ after (cond t Between (Bracket (eqb b 92))) bs) [ true ↦ refl | false ↦ refl ]

pub after_nothing : (s : State) → after s [] ≡ s
unfolding after
after_nothing Between = refl
after_nothing Plain = refl
after_nothing (Bracket e) = refl

pub after_last : (s : State) (xs : List ℕ) (b : ℕ) → after s (xs ++ b ∷ []) ≡ next_state (after s xs) b
after_last s [] b = after_byte s b [] ∙ after_nothing (next_state s b) ∙ ap (λ (r : State). next_state r b) (sym (after_nothing s))
after_last s (c ∷ xs) b =
    after_byte s c (xs ++ b ∷ []) ∙ after_last (next_state s c) xs b ∙ ap (λ (r : State). next_state r b) (sym (after_byte s c xs))

-- NAMES

pub no_slash : (bs : List ℕ) → list_any (λ c. eqb c 47) bs ≡ false → after_last_slash bs ≡ bs
unfolding after_last_slash
no_slash [] h = refl
no_slash (b ∷ bs) h = rw h refl

has_dot : List ℕ → Bool
has_dot bs = list_any (λ c. eqb c 46) bs

pub no_dot : (bs : List ℕ) → list_any (λ c. eqb c 46) bs ≡ false → before_last_dot bs ≡ bs
unfolding before_last_dot
no_dot [] h = refl
no_dot (b ∷ bs) h =
    let parts = or_parts (eqb b 46) (list_any (λ c. eqb c 46) bs) h in
    rw parts.0 (ap (λ (r : List ℕ). b ∷ r) (no_dot bs parts.1))

dot_after : (xs tail : List ℕ) → list_any (λ c. eqb c 46) (xs ++ 46 ∷ tail) ≡ true
dot_after [] tail = refl
dot_after (b ∷ xs) tail =
    elim (eqb b 46) as (λ (t : Bool). (t || list_any (λ c. eqb c 46) (xs ++ 46 ∷ tail)) ≡ true) [ true ↦ refl | false ↦ dot_after xs tail ]

pub cut_at_dot : (xs tail : List ℕ) → list_any (λ c. eqb c 46) tail ≡ false → before_last_dot (xs ++ 46 ∷ tail) ≡ xs
unfolding before_last_dot
cut_at_dot [] tail h = rw h refl
cut_at_dot (b ∷ xs) tail h =
    ap (λ (t : Bool). cond (eqb b 46 && not t) [] (b ∷ before_last_dot (xs ++ 46 ∷ tail))) (dot_after xs tail)
    ∙ ap (λ (t : Bool). cond t [] (b ∷ before_last_dot (xs ++ 46 ∷ tail))) (never (eqb b 46))
    ∙ ap (λ (r : List ℕ). b ∷ r) (cut_at_dot xs tail h)
  where
    never : (t : Bool) → (t && not true) ≡ false
    never true = refl
    never false = refl

-- the dot that was found is the last one
pub found_dot : (name front tail before : List ℕ) (b : ℕ) → name ≡ front ++ tail → list_any (λ c. eqb c 46) tail ≡ false → front ≡ before ++ b ∷ [] →
    b ≡ 46 → before_last_dot name ≡ before
found_dot name front tail before b is none split dot =
    ap before_last_dot (is ∙ ap (λ (f : List ℕ). f ++ tail) split ∙ append_assoc before (b ∷ []) tail ∙ ap (λ (d : ℕ). before ++ d ∷ tail) dot)
    ∙ cut_at_dot before tail none

pub no_dot_at_all : (name front tail : List ℕ) → name ≡ front ++ tail → list_any (λ c. eqb c 46) tail ≡ false → length front ≡ 0 →
    before_last_dot name ≡ name
no_dot_at_all name [] tail is none e = no_dot name (ap (list_any (λ c. eqb c 46)) is ∙ none)
no_dot_at_all name (b ∷ front) tail is none e = absurd (omega (arith, e))

slash_after : (xs tail : List ℕ) → list_any (λ c. eqb c 47) (xs ++ 47 ∷ tail) ≡ true
slash_after [] tail = refl
slash_after (b ∷ xs) tail =
    elim (eqb b 47) as (λ (t : Bool). (t || list_any (λ c. eqb c 47) (xs ++ 47 ∷ tail)) ≡ true) [ true ↦ refl | false ↦ slash_after xs tail ]

cut_at_slash : (xs tail : List ℕ) → list_any (λ c. eqb c 47) tail ≡ false → after_last_slash (xs ++ 47 ∷ tail) ≡ tail
unfolding after_last_slash
cut_at_slash [] tail h = no_slash tail h
cut_at_slash (b ∷ xs) tail h =
    ap (λ (t : Bool). cond t (after_last_slash (xs ++ 47 ∷ tail)) (b ∷ xs ++ 47 ∷ tail)) (slash_after (b ∷ xs) tail) ∙ cut_at_slash xs tail h

dropped : (xs ys : List ℕ) → drop (length xs) (xs ++ ys) ≡ ys
dropped [] ys = refl
dropped (b ∷ xs) ys = dropped xs ys

-- the slash that was found is the last one
pub found_slash : (path front tail before : List ℕ) (b : ℕ) → path ≡ front ++ tail → list_any (λ c. eqb c 47) tail ≡ false → front ≡ before ++ b ∷ [] →
    b ≡ 47 → after_last_slash path ≡ drop (length front) path
found_slash path front tail before b is none split slash =
    ap after_last_slash (is ∙ ap (λ (f : List ℕ). f ++ tail) split ∙ append_assoc before (b ∷ []) tail ∙ ap (λ (d : ℕ). before ++ d ∷ tail) slash)
    ∙ cut_at_slash before tail none ∙ sym (dropped front tail) ∙ ap (drop (length front)) (sym is)

pub no_slash_at_all : (path front tail : List ℕ) → path ≡ front ++ tail → list_any (λ c. eqb c 47) tail ≡ false → length front ≡ 0 →
    after_last_slash path ≡ path
no_slash_at_all path [] tail is none e = no_slash path (ap (list_any (λ c. eqb c 47)) is ∙ none)
no_slash_at_all path (b ∷ front) tail is none e = absurd (omega (arith, e))

-- WHAT A LINE ADDS

goes_part : (line : List ℕ) → goes_on line ≡ true → part line ≡ last_is_space (without_end_blanks line)
goes_part line g = ap (λ (t : Bool). cond t (front_part line) (before_hash line)) g

one_byte : (t : List ℕ) → length t ≡ 1 → begins_in_blank (last_is_space t) ≡ true
unfolding last_is_space
one_byte [] h = absurd (omega (arith, h))
one_byte (b ∷ []) h = refl
one_byte (b ∷ c ∷ t) h = absurd (omega (arith, h))

more_bytes : (t : List ℕ) → (length t ≡ 1 → ⊥) → begins_in_blank (last_is_space t) ≡ begins_in_blank t
unfolding last_is_space
more_bytes [] h = refl
more_bytes (b ∷ []) h = absurd (h refl)
more_bytes (b ∷ c ∷ t) h = refl

pub begins_one : (line t : List ℕ) → goes_on line ≡ true → t ≡ without_end_blanks line → length t ≡ 1 → begins_in_blank (part line) ≡ true
begins_one line t g is h = ap begins_in_blank (goes_part line g ∙ ap last_is_space (sym is)) ∙ one_byte t h

pub begins_more : (line t : List ℕ) → goes_on line ≡ true → t ≡ without_end_blanks line → (length t ≡ 1 → ⊥) →
    begins_in_blank (part line) ≡ begins_in_blank t
begins_more line t g is h = ap begins_in_blank (goes_part line g ∙ ap last_is_space (sym is)) ∙ more_bytes t h

pub read_byte : (s r : State) (text : List ℕ) (i : ℕ) → i < length text → r ≡ next_state s (get_or text i 0) →
    after r (drop (i + 1) text) ≡ after s (drop i text)
read_byte s r text i low is =
    let split : drop i text ≡ get_or text i 0 ∷ drop (i + 1) text = rw (add-one, drop-cons text i 0) refl in
    ap (λ (q : State). after q (drop (i + 1) text)) is ∙ sym (after_byte s (get_or text i 0) (drop (i + 1) text)) ∙ ap (after s) (sym split)

pub read_all : (s w : State) (text : List ℕ) (i : ℕ) → length text ≤ i → after s (drop i text) ≡ after w text → s ≡ after w text
read_all s w text i end h = sym (after_nothing s) ∙ ap (after s) (sym (drop_all i text end)) ∙ h

-- the state at the line after one that goes on
pub line_read : (s a n : State) (line t front : List ℕ) (b : ℕ) → goes_on line ≡ true → t ≡ without_end_blanks line → t ≡ front ++ b ∷ [] →
    a ≡ after s front → n ≡ next_state a 32 → n ≡ state_after s line
line_read s a n line t front b g is split first then =
    then ∙ ap (λ (r : State). next_state r 32) first ∙ sym (after_last s front 32) ∙ ap (after s) (sym (last_spaced front b))
    ∙ ap (λ (r : List ℕ). after s (last_is_space r)) (sym split ∙ is)
    ∙ ap (after s) (sym (goes_part line g))
    ∙ sym (ap (λ (u : Bool). cond u (after s (part line)) Between) g)

pub no_empty_line : (line t : List ℕ) → goes_on line ≡ true → t ≡ without_end_blanks line → length t ≡ 0 → ⊥
no_empty_line line t g is e =
    let ends : ends_in_backslash (without_end_blanks line) ≡ true = (and_parts (not (has_hash line)) (ends_in_backslash (without_end_blanks line)) g).1 in
    let no : ends_in_backslash t ≡ false = nothing_last_backslash t e in
    let wrong : true ≡ false = sym ends ∙ ap ends_in_backslash (sym is) ∙ no in absurd (cc)

-- whether line feeds end lines of 1.7.0

some_lines : (b : ℕ) (ls : List (List ℕ)) (closed : Bool) → is_fed_before closed (onto_first b ls) ≡ true
some_lines b [] closed = refl
some_lines b (l ∷ ls) closed = refl

pub fed_if_closed : (closed : Bool) (after : List ℕ) → closed ≡ true → true ≡ is_fed_before closed (physical_lines after)
fed_if_closed true after h = some_fed (physical_lines after)
  where
    some_fed : (ls : List (List ℕ)) → true ≡ is_fed_before true ls
    some_fed [] = refl
    some_fed (l ∷ ls) = refl
fed_if_closed false after h = absurd (cc)

pub fed_before_others : (after : List ℕ) → not (eqb (length after) 0) ≡ is_fed_before false (physical_lines after)
unfolding physical_lines
fed_before_others [] = refl
fed_before_others (b ∷ bs) =
    ap not (ne_eqb (length (b ∷ bs)) 0 (λ h. omega (arith, h)))
    ∙ sym (elim (eqb b 10) as (λ (t : Bool). is_fed_before false (cond t ([] ∷ physical_lines bs) (onto_first b (physical_lines bs))) ≡ true) [
      | true ↦ refl
      | false ↦ some_lines b (physical_lines bs) false
    ])
