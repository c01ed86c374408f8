-- The first token of a list, and tokens one after another.
use Rattle.std.proofs.Common.{◌≡◌, ◌∙◌, ◌+◌, ◌-◌, ◌≤◌, ◌||◌, ℕ, suc, Bool, true, false, not, List, [], ◌∷◌, length, take, drop, map, filter, cond, eqb}
use Rattle.std.proofs.Common.{◌==◌, nat_lt, length-drop, reverse, Result, Ok, Err, refl, sym, ap, ap₂, arith, one-add}
use Rattle.std.specs.List.{slice_split, onto_first, prefix_len, suffix_len}
use Rattle.std.proofs.lemmas.Bool.{eqb-true, ltb-true, ltb-false}
use Rattle.std.proofs.lemmas.List.{length-reverse, reverse-append}
use Rattle.std.proofs.lemmas.List.Folds.{prefix_len-append}
use Rattle.std.proofs.lemmas.List.Sums.{prefix_len-le-length}
use Rattle.pam_tables.specs.Lines.{has_bytes, is_among, is_blank, trimmed, trimmed_end}
use Rattle.pam_tables.specs.Tokens.{tokens_of, each_token, with_token}
use Rattle.pam_tables.specs.declared.error.TableFault.{TableFault}
use Rattle.pam_tables.proofs.Cutting.{split_parts}
use Rattle.pam_tables.specs.Error.{verdict}
use Rattle.pam_tables.specs.inner.Lists.{matches_after}
use Rattle.pam_tables.specs.declared.lists.Mark.{Mark}
use Rattle.pam_tables.specs.declared.lists.ListState.{ListState}

abbrev tokens_in : List (List ℕ) → List (List ℕ)
tokens_in parts = filter has_bytes (map trimmed parts)

abbrev is_gap : List ℕ → ℕ → Bool
is_gap s b = is_among s b || is_blank b

blank_trimmed : (b : ℕ) (bs : List ℕ) → is_blank b ≡ true → trimmed (b ∷ bs) ≡ trimmed bs
blank_trimmed b bs h = ap (λ (t : Bool). trimmed_end (drop (cond t (1 + prefix_len is_blank bs) 0) (b ∷ bs))) h ∙ rw one-add refl

or_true : (a b : Bool) → (a || b) ≡ true → a ≡ false → b ≡ true
or_true true b h e = absurd (cc)
or_true false b h e = h

-- a leading separator or blank changes nothing
gap_byte : (s : List ℕ) (b : ℕ) (bs : List ℕ) → is_gap s b ≡ true → tokens_of s (b ∷ bs) ≡ tokens_of s bs
unfolding tokens_of
gap_byte s b bs h =
    elim (is_among s b) as (λ (t : Bool). is_among s b ≡ t → tokens_in (cond t ([] ∷ slice_split (is_among s) bs) (onto_first b (slice_split (is_among s) bs)))
    ≡ tokens_in (slice_split (is_among s) bs)) [
      | true ↦ λ e. refl
      | false ↦ λ e.
          let ps = split_parts (is_among s) bs in
          ap (λ (qs : List (List ℕ)). tokens_in (onto_first b qs)) ps.are
          ∙ ap (λ (p : List ℕ). filter has_bytes (p ∷ map trimmed ps.others)) (blank_trimmed b ps.first (or_true (is_among s b) (is_blank b) h e))
          ∙ sym (ap tokens_in ps.are)
    ] refl

-- leading separators and blanks are skipped
pub gap_skipped : (s text : List ℕ) → tokens_of s text ≡ tokens_of s (drop (prefix_len (is_gap s) text) text)
gap_skipped s [] = refl
gap_skipped s (b ∷ bs) =
    elim (is_gap s b) as (λ (t : Bool). is_gap s b ≡ t → tokens_of s (b ∷ bs) ≡ tokens_of s (drop (cond t (1 + prefix_len (is_gap s) bs) 0) (b ∷ bs))) [
      | true ↦ λ e. gap_byte s b bs e ∙ gap_skipped s bs ∙ rw one-add refl
      | false ↦ λ e. refl
    ] refl

-- no byte right after the longest passing prefix passes
pub none_after : (p : ℕ → Bool) (bs : List ℕ) → prefix_len p (drop (prefix_len p bs) bs) ≡ 0
none_after p [] = refl
none_after p (b ∷ bs) = elim (p b) as (λ (t : Bool). p b ≡ t → prefix_len p (drop (cond t (1 + prefix_len p bs) 0) (b ∷ bs)) ≡ 0) [
  | true ↦ λ e. rw one-add (none_after p bs)
  | false ↦ λ e. ap (λ (t : Bool). cond t (1 + prefix_len p bs) 0) e
] refl

pub no_tokens : (s text : List ℕ) → length text ≡ 0 → tokens_of s text ≡ []
unfolding tokens_of
no_tokens s [] h = refl
no_tokens s (b ∷ bs) h = absurd (omega arith)

abbrev in_part : List ℕ → ℕ → Bool
in_part s b = not (is_among s b)

-- the first part, and other parts with the tokens after it
record FirstSplit (s text : List ℕ) : Type 0 where
  others : List (List ℕ)
  are : slice_split (is_among s) text ≡ take (prefix_len (in_part s) text) text ∷ others
  tokens : tokens_in others ≡ tokens_of s (drop (prefix_len (in_part s) text) text)

first_split : (s text : List ℕ) → FirstSplit s text
unfolding tokens_of
first_split s [] = record { others = []; are = refl; tokens = refl }
first_split s (b ∷ bs) = go (is_among s b) refl (first_split s bs)
  where
    go : (t : Bool) → is_among s b ≡ t → FirstSplit s bs → FirstSplit s (b ∷ bs)
    go true e f =
        let stop : prefix_len (in_part s) (b ∷ bs) ≡ 0 = ap (λ (t : Bool). cond (not t) (1 + prefix_len (in_part s) bs) 0) e in
        record {
          others = slice_split (is_among s) bs;
          are = ap (λ (t : Bool). cond t ([] ∷ slice_split (is_among s) bs) (onto_first b (slice_split (is_among s) bs))) e ∙ rw stop refl;
          tokens = sym (gap_byte s b bs (ap (λ (t : Bool). t || is_blank b) e)) ∙ rw stop refl;
        }
    go false e f =
        let more : prefix_len (in_part s) (b ∷ bs) ≡ suc (prefix_len (in_part s) bs) = ap (λ (t : Bool). cond (not t) (1 + prefix_len (in_part s) bs) 0) e
        ∙ rw one-add refl in
        record {
          others = f.others;
          are =
              ap (λ (t : Bool). cond t ([] ∷ slice_split (is_among s) bs) (onto_first b (slice_split (is_among s) bs))) e ∙ ap (onto_first b) f.are
              ∙ rw more refl;
          tokens = f.tokens ∙ rw more refl;
        }

at_most : (t : Bool) (x y l : ℕ) → x ≤ l → y ≤ l → cond t x y ≤ l
at_most true x y l h k = h
at_most false x y l h k = k

few_blanks : (b : ℕ) (bs : List ℕ) → is_blank b ≡ false → suffix_len is_blank (b ∷ bs) ≤ length bs
few_blanks b bs h =
    let one : prefix_len is_blank (b ∷ []) ≡ 0 = ap (λ (t : Bool). cond t (1 + 0) 0) h in
    let front : prefix_len is_blank (reverse bs) ≤ length (reverse bs) = prefix_len-le-length is_blank (reverse bs) in
    let all : suffix_len is_blank (b ∷ bs) ≡ cond (eqb (prefix_len is_blank (reverse bs)) (length (reverse bs)))
    (length (reverse bs) + prefix_len is_blank (b ∷ [])) (prefix_len is_blank (reverse bs)) =
    ap (prefix_len is_blank) (reverse-append (b ∷ []) bs) ∙ prefix_len-append is_blank (reverse bs) (b ∷ []) in
    let whole : length (reverse bs) + prefix_len is_blank (b ∷ []) ≤ length bs = omega (arith, length-reverse bs) in
    let some : prefix_len is_blank (reverse bs) ≤ length bs = omega (arith, length-reverse bs) in
    let most = at_most (eqb (prefix_len is_blank (reverse bs)) (length (reverse bs))) (length (reverse bs) + prefix_len is_blank (b ∷ []))
    (prefix_len is_blank (reverse bs)) (length bs) whole some in
    omega (arith, all, most)

-- a text that does not begin with a blank is not empty after blanks are trimmed from its end
kept : (b : ℕ) (bs : List ℕ) → is_blank b ≡ false → has_bytes (trimmed_end (b ∷ bs)) ≡ true
kept b bs h =
    let few : suffix_len is_blank (b ∷ bs) ≤ length bs = few_blanks b bs h in
    let size : length (b ∷ bs) - suffix_len is_blank (b ∷ bs) ≡ suc (length bs - suffix_len is_blank (b ∷ bs)) = omega arith in
    ap (λ n. has_bytes (take n (b ∷ bs))) size

pub neither : (a b : Bool) → (a || b) ≡ false → (a ≡ false) × (b ≡ false)
neither true b h = absurd (cc)
neither false b h = (refl, h)

no_gap : (t : Bool) (n : ℕ) → cond t (1 + n) 0 ≡ 0 → t ≡ false
no_gap true n h = absurd (omega arith)
no_gap false n h = refl

-- a token ends at the first separator
pub token_first : (s rest part after : List ℕ) → (length rest ≡ 0 → ⊥) → prefix_len (is_gap s) rest ≡ 0 → part ≡ take (prefix_len (in_part s) rest) rest →
    after ≡ drop (prefix_len (in_part s) rest) rest → tokens_of s rest ≡ trimmed_end part ∷ tokens_of s after
unfolding tokens_of
token_first s [] part after h z e f = absurd (h refl)
token_first s (b ∷ bs) part after h z e f =
    let tests = neither (is_among s b) (is_blank b) (no_gap (is_gap s b) (prefix_len (is_gap s) bs) z) in
    let q : List ℕ = take (prefix_len (in_part s) bs) bs in
    let more : prefix_len (in_part s) (b ∷ bs) ≡ suc (prefix_len (in_part s) bs) = ap (λ (t : Bool). cond (not t) (1 + prefix_len (in_part s) bs) 0) tests.0
    ∙ rw one-add refl in
    let front : take (prefix_len (in_part s) (b ∷ bs)) (b ∷ bs) ≡ b ∷ q = rw more refl in
    let whole : trimmed (b ∷ q) ≡ trimmed_end (b ∷ q) = ap (λ (t : Bool). trimmed_end (drop (cond t (1 + prefix_len is_blank q) 0) (b ∷ q))) tests.1 in
    let split = first_split s (b ∷ bs) in
    ap tokens_in split.are ∙ ap (λ (p : List ℕ). tokens_in (p ∷ split.others)) front
    ∙ ap (λ (p : List ℕ). filter has_bytes (p ∷ map trimmed split.others)) whole
    ∙ ap (λ (t : Bool). cond t (trimmed_end (b ∷ q) ∷ tokens_in split.others) (tokens_in split.others)) (kept b q tests.1)
    ∙ ap₂ (λ (x : List ℕ) (y : List (List ℕ)). x ∷ y) (ap trimmed_end (sym (e ∙ front))) (split.tokens ∙ ap (tokens_of s) (sym f))

some_tokens : (k : ℕ) → true ≡ not (suc k == 0)
some_tokens k =
    elim (suc k == 0) as (λ (t : Bool). (suc k == 0) ≡ t → true ≡ not t) [
      | true ↦ λ e. let wrong : suc k ≡ 0 = eqb-true (suc k) 0 e in absurd (omega arith)
      | false ↦ λ e. refl
    ] refl

-- a list has a token if more than separators and blanks are in it
pub gap_ends : (s text : List ℕ) (n : ℕ) → n ≡ prefix_len (is_gap s) text → nat_lt n (length text) ≡ not (length (tokens_of s text) == 0)
gap_ends s text n e =
    let rest : List ℕ = drop n text in
    let skipped : tokens_of s text ≡ tokens_of s rest = gap_skipped s text ∙ ap (λ k. tokens_of s (drop k text)) (sym e) in
    elim (nat_lt n (length text)) as (λ (t : Bool). nat_lt n (length text) ≡ t → t ≡ not (length (tokens_of s text) == 0)) [
      | true ↦ λ f.
          let long : length rest ≡ 0 → ⊥ = λ none. omega (arith, ltb-true n (length text) f, length-drop n text, none) in
          let stop : prefix_len (is_gap s) rest ≡ 0 = ap (λ k. prefix_len (is_gap s) (drop k text)) e ∙ none_after (is_gap s) text in
          some_tokens _ ∙ sym (ap (λ ts. not (length ts == 0)) (skipped ∙ token_first s rest _ _ long stop refl refl))
      | false ↦ λ f.
          let none : length rest ≡ 0 = omega (arith, ltb-false n (length text) f, length-drop n text) in
          sym (ap (λ ts. not (length ts == 0)) (skipped ∙ no_tokens s rest none))
    ] refl

-- ---- tokens one after another

pub passes : {A : Type 0} (r : Result A TableFault) (others : Result (List A) TableFault) → Ok tt ≡ verdict r → verdict others ≡ verdict (with_token r others)
passes (Ok x) (Ok xs) h = refl
passes (Ok x) (Err fault) h = refl
passes (Err fault) others h = absurd (cc)

fails : {A : Type 0} (fault : TableFault) (r : Result A TableFault) (others : Result (List A) TableFault) → Err fault ≡ verdict r →
    Err fault ≡ verdict (with_token r others)
fails fault (Ok x) others h = absurd (cc)
fails fault (Err f) others h = h

-- a token and others, all without a fault
record Read {A : Type 0} (r : Result A TableFault) (others : Result (List A) TableFault) (all : List A) : Type 0 where
  pub first : A
  pub rest : List A
  pub token : r ≡ Ok first
  pub tokens : others ≡ Ok rest
  pub are : all ≡ first ∷ rest

all_read : {A : Type 0} (r : Result A TableFault) (others : Result (List A) TableFault) (all : List A) → with_token r others ≡ Ok all → Read r others all
all_read (Ok x) (Ok xs) all h = record { first = x; rest = xs; token = refl; tokens = refl; are = cc }
all_read (Ok x) (Err fault) all h = absurd (cc)
all_read (Err fault) others all h = absurd (cc)

-- the meanings of the remaining tokens, after which the list has this answer
pub record Left {A : Type 0} (read : List ℕ → Result A TableFault) (mark : A → Mark) (parts : ListState) (tokens : List (List ℕ)) (answer : Bool) : Type 0 where
  pub rest : List A
  pub are : each_token read tokens ≡ Ok rest
  pub same : answer ≡ matches_after parts (map mark rest)

module _ {A : Type 0} (read : List ℕ → Result A TableFault) where
  pub no_token : (all : List (List ℕ)) → all ≡ [] → Ok tt ≡ verdict (each_token read all)
  unfolding each_token
  no_token all e = sym (ap (λ (ts : List (List ℕ)). verdict (each_token read ts)) e)

  pub last_token : (mark : A → Mark) (parts : ListState) (all : List (List ℕ)) (answer : Bool) → all ≡ [] → Left read mark parts all answer →
      matches_after parts [] ≡ answer
  unfolding each_token
  last_token mark parts all answer e left =
      let none : Ok [] ≡ Ok left.rest = sym (ap (each_token read) e) ∙ left.are in
      let empty : left.rest ≡ [] = cc in
      sym (left.same ∙ ap (λ (ms : List A). matches_after parts (map mark ms)) empty)

  module _ (token : List ℕ) (all tokens : List (List ℕ)) (first : all ≡ token ∷ tokens) where
    pub token_passes : Ok tt ≡ verdict (read token) → verdict (each_token read tokens) ≡ verdict (each_token read all)
    unfolding each_token
    token_passes h =
        passes (read token) (each_token read tokens) h ∙ sym (ap (λ (ts : List (List ℕ)). verdict (each_token read ts)) first)

    pub token_fails : (fault : TableFault) → Err fault ≡ verdict (read token) → Err fault ≡ verdict (each_token read all)
    unfolding each_token
    token_fails fault h =
        fails fault (read token) (each_token read tokens) h ∙ sym (ap (λ (ts : List (List ℕ)). verdict (each_token read ts)) first)

    pub token_marked : (mark : A → Mark) (parts new : ListState) (m : Mark) (answer : Bool) → ((x : A) → read token ≡ Ok x → m ≡ mark x) →
        ((ms : List Mark) → matches_after new ms ≡ matches_after parts (m ∷ ms)) → Left read mark parts all answer → Left read mark new tokens answer
    unfolding each_token
    token_marked mark parts new m answer marked then left =
        let seen = all_read (read token) (each_token read tokens) left.rest (sym (ap (each_token read) first) ∙ left.are) in
        record {
          rest = seen.rest;
          are = seen.tokens;
          same = left.same ∙ ap (λ (ms : List A). matches_after parts (map mark ms)) seen.are
              ∙ ap (λ (x : Mark). matches_after parts (x ∷ map mark seen.rest)) (sym (marked seen.first seen.token)) ∙ sym (then (map mark seen.rest));
        }
