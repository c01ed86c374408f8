-- A bracket that stays open, and the words before it.
use Rattle.std.proofs.Common.{◌≡◌, ◌≤◌, ◌<◌, ◌+◌, ◌-◌, ◌∙◌, ◌&&◌, inl, inr, one-add, ℕ, zero, suc, Bool, true, false, not, List, [], ◌∷◌, Option, None, Some, length, drop, take, cond, eqb, get_or, ap, sym, refl, arith, length-drop, subst}
use Rattle.std.proofs.lemmas.Bool.{cases_Bool, eq-eqb, ne_eqb}
use Rattle.std.proofs.lemmas.List.{drop-drop, get_or-drop, take_all}
use Rattle.std.proofs.lemmas.List.Sums.{prefix_len_stops}
use Rattle.std.specs.List.{onto_first, prefix_len}
use Rattle.std.specs.Option.{is_some, option_map}
use Rattle.pam_codes.specs.Control.{closing_at}
use Rattle.pam_conf.specs.Words.{Between, Bracket, Plain, State, words_in}
use Rattle.pam_text.specs.Blanks.{is_text_blank}
use Rattle.pam_findings.specs.misspelled.Open.{closed_len, is_closed, open_piece}
use Rattle.pam_findings.specs.misspelled.inner.Opening.{Skips, StaysOpen}
use Rattle.pam_findings.proofs.MisspelledProofs.Parts.{IsPart, map_some}
use Rattle.pam_findings.proofs.MisspelledProofs.Pieces.{shifted}

abbrev is_split : State → List ℕ → Bool
is_split state bs = is_some (words_in state bs)

mapped : {A B : Type 0} (f : A → B) (o : Option A) → is_some (option_map f o) ≡ is_some o
mapped f None = refl
mapped f (Some x) = refl

empty_closed : is_closed [] ≡ true
unfolding words_in
empty_closed = refl

-- FIRST BYTES THAT ARE CLOSED

blanks_skip : (bs : List ℕ) (more : ℕ)
    → is_closed (take (prefix_len is_text_blank bs + more) bs) ≡ is_closed (take more (drop (prefix_len is_text_blank bs) bs))
unfolding words_in
blanks_skip [] more = let same : 0 + more ≡ more = omega arith in ap (λ (n : ℕ). is_closed (take n [])) same
blanks_skip (b ∷ bs) more =
    elim (is_text_blank b) as (λ (t : Bool). is_text_blank b ≡ t
    → is_closed (take (cond t (1 + prefix_len is_text_blank bs) 0 + more) (b ∷ bs))
    ≡ is_closed (take more (drop (cond t (1 + prefix_len is_text_blank bs) 0) (b ∷ bs)))) [
      | true ↦ λ e.
          let one : 1 + prefix_len is_text_blank bs ≡ suc (prefix_len is_text_blank bs) = omega arith in
          let sum : suc (prefix_len is_text_blank bs) + more ≡ suc (prefix_len is_text_blank bs + more) = omega arith in
          rw one (rw sum (rw e (blanks_skip bs more)))
      | false ↦ λ e. let same : 0 + more ≡ more = omega arith in ap (λ (n : ℕ). is_closed (take n (b ∷ bs))) same
    ] refl

abbrev letters : List ℕ → ℕ
letters bs = prefix_len (λ b. not (is_text_blank b)) bs

before_blank : (b : ℕ) (bs : List ℕ) (more : ℕ) → is_text_blank b ≡ true → is_split Plain (take more (b ∷ bs)) ≡ is_closed (take more (b ∷ bs))
unfolding words_in
before_blank b bs zero e = refl
before_blank b bs (suc more) e = rw e (mapped (λ ws. [] ∷ ws) (words_in Between (take more bs)))

before_end : (more : ℕ) → is_split Plain (take more []) ≡ is_closed (take more [])
unfolding words_in
before_end zero = refl
before_end (suc more) = refl

plain_skip : (bs : List ℕ) (more : ℕ) → is_split Plain (take (letters bs + more) bs) ≡ is_closed (take more (drop (letters bs) bs))
unfolding words_in
plain_skip [] more = let same : 0 + more ≡ more = omega arith in rw same (before_end more)
plain_skip (b ∷ bs) more =
    elim (is_text_blank b) as (λ (t : Bool). is_text_blank b ≡ t
    → is_split Plain (take (cond (not t) (1 + letters bs) 0 + more) (b ∷ bs)) ≡ is_closed (take more (drop (cond (not t) (1 + letters bs) 0) (b ∷ bs)))) [
      | true ↦ λ e. let same : 0 + more ≡ more = omega arith in rw same (before_blank b bs more e)
      | false ↦ λ e.
          let one : 1 + letters bs ≡ suc (letters bs) = omega arith in
          let sum : suc (letters bs) + more ≡ suc (letters bs + more) = omega arith in
          rw one (rw sum (rw e (mapped (onto_first b) (words_in Plain (take (letters bs + more) bs)) ∙ plain_skip bs more)))
    ] refl

-- BRACKETS

abbrev closes : ℕ → Bool → Bool
closes b escaped = eqb b 93 && not escaped

bracket_skip : (escaped : Bool) (bs : List ℕ) (n more : ℕ) → closing_at escaped bs ≡ Some n
    → is_split (Bracket escaped) (take (suc n + more) bs) ≡ is_closed (take more (drop (suc n) bs))
unfolding closing_at words_in
bracket_skip escaped [] n more h = absurd (cc)
bracket_skip escaped (b ∷ bs) n more h = elim (cases_Bool (closes b escaped)) [
  | inl e ↦
      let found : Some 0 ≡ Some n = sym (ap (λ (t : Bool). cond t (Some 0) (option_map (λ k. k + 1) (closing_at (eqb b 92) bs))) e) ∙ h in
      let none : 0 ≡ n = cc in
      let sum : suc n + more ≡ suc more = omega (arith, none) in
      rw sum (rw (sym none) (rw e (mapped (λ ws. (93 ∷ []) ∷ ws) (words_in Between (take more bs)))))
  | inr e ↦
      let found : option_map (λ k. k + 1) (closing_at (eqb b 92) bs) ≡ Some n =
      sym (ap (λ (t : Bool). cond t (Some 0) (option_map (λ k. k + 1) (closing_at (eqb b 92) bs))) e) ∙ h in
      map_some (λ k. k + 1) (closing_at (eqb b 92) bs) n found
      (λ k at is.
      let one : n ≡ suc k = omega (arith, is) in
      let sum : suc (suc k) + more ≡ suc (suc k + more) = omega arith in
      rw one (rw sum (rw e (mapped (onto_first b) (words_in (Bracket (eqb b 92)) (take (suc k + more) bs)) ∙ bracket_skip (eqb b 92) bs k more at))))
]

no_map : {A B : Type 0} (f : A → B) (o : Option A) → option_map f o ≡ None → o ≡ None
no_map f None h = refl
no_map f (Some x) h = absurd (cc)

never_split : (escaped : Bool) (bs : List ℕ) (n : ℕ) → closing_at escaped bs ≡ None → is_split (Bracket escaped) (take n bs) ≡ false
unfolding closing_at words_in
never_split escaped bs zero h = refl
never_split escaped [] (suc n) h = refl
never_split escaped (b ∷ bs) (suc n) h = elim (cases_Bool (closes b escaped)) [
  | inl e ↦
      let clash : ◌≡◌ {A = Option ℕ} (Some 0) None = sym (ap (λ (t : Bool). cond t (Some 0) (option_map (λ k. k + 1) (closing_at (eqb b 92) bs))) e) ∙ h in
      absurd (cc)
  | inr e ↦
      let none : option_map (λ k. k + 1) (closing_at (eqb b 92) bs) ≡ None =
      sym (ap (λ (t : Bool). cond t (Some 0) (option_map (λ k. k + 1) (closing_at (eqb b 92) bs))) e) ∙ h in
      rw e (mapped (onto_first b) (words_in (Bracket (eqb b 92)) (take n bs))
      ∙ never_split (eqb b 92) bs n (no_map (λ k. k + 1) (closing_at (eqb b 92) bs) none))
]

-- WORDS

pub skip_blanks : (bs : List ℕ) (n : ℕ) → n ≡ prefix_len is_text_blank bs → n ≤ length bs → Skips n bs
skip_blanks bs n e fits = subst (λ (k : ℕ). Skips k bs) (sym e) (record { within = omega (arith, e, fits); after = blanks_skip bs })

skip_letters : (b : ℕ) (bs : List ℕ) → is_text_blank b ≡ false → (b ≡ 91 → ⊥) → letters (b ∷ bs) ≤ length (b ∷ bs)
    → (0 < letters (b ∷ bs)) × Skips (letters (b ∷ bs)) (b ∷ bs)
unfolding words_in
skip_letters b bs e n fits =
    let one : letters (b ∷ bs) ≡ suc (letters bs) = ap (λ (t : Bool). cond (not t) (1 + letters bs) 0) e ∙ one-add (letters bs) in (
      omega (arith, one),
      record {
        within = fits;
        after =
            λ more.
            let sum : suc (letters bs) + more ≡ suc (letters bs + more) = omega arith in
            let first : words_in Between (b ∷ take (letters bs + more) bs) ≡ option_map (onto_first b) (words_in Plain (take (letters bs + more) bs)) =
            rw (e, ne_eqb b 91 n) refl in
            ap (λ (k : ℕ). is_closed (take (k + more) (b ∷ bs))) one
            ∙ ap (λ (k : ℕ). is_closed (take k (b ∷ bs))) sum
            ∙ ap is_some first
            ∙ mapped (onto_first b) (words_in Plain (take (letters bs + more) bs))
            ∙ plain_skip bs more
            ∙ ap (λ (k : ℕ). is_closed (take more (drop k (b ∷ bs)))) (sym one);
      },
    )

pub skip_plain : (bs : List ℕ) (n : ℕ) → 0 < length bs → is_text_blank (get_or bs 0 0) ≡ false → (get_or bs 0 0 ≡ 91 → ⊥) → n ≡ letters bs
    → n ≤ length bs → (0 < n) × Skips n bs
skip_plain [] n some e other is fits = absurd (omega (arith, some))
skip_plain (b ∷ bs) n some e other is fits =
    subst (λ (k : ℕ). (0 < k) × Skips k (b ∷ bs)) (sym is) (skip_letters b bs e other (omega (arith, is, fits)))

in_bracket : (xs : List ℕ) → is_closed (91 ∷ xs) ≡ is_split (Bracket false) xs
unfolding words_in
in_bracket xs = mapped (onto_first 91) (words_in (Bracket false) xs)

skip_inside : (tail : List ℕ) (n : ℕ) → closing_at false tail ≡ Some n → n < length tail → Skips (suc (suc n)) (91 ∷ tail)
skip_inside tail n h fits = record {
  within = omega (arith, fits);
  after =
      λ more.
      let sum : suc (suc n) + more ≡ suc (suc n + more) = omega arith in
      ap (λ (k : ℕ). is_closed (take k (91 ∷ tail))) sum ∙ in_bracket (take (suc n + more) tail) ∙ bracket_skip false tail n more h;
}

pub skip_brackets : (bs tail : List ℕ) (n : ℕ) → 0 < length bs → get_or bs 0 0 ≡ 91 → tail ≡ drop 1 bs → closing_at false tail ≡ Some n → n < length tail
    → (0 < n + 2) × Skips (n + 2) bs
skip_brackets [] tail n some first is h fits = absurd (omega (arith, some))
skip_brackets (b ∷ bs) tail n some first is h fits =
    let two : suc (suc n) ≡ n + 2 = omega arith in
    let whole : 91 ∷ tail ≡ b ∷ bs = ap (λ (xs : List ℕ). 91 ∷ xs) is ∙ ap (λ (x : ℕ). x ∷ bs) (sym first) in
    (omega arith, subst (λ (k : ℕ). Skips k (b ∷ bs)) two (subst (Skips (suc (suc n))) whole (skip_inside tail n h fits)))

-- THE OPEN BRACKET

never_closed : (n : ℕ) (tail : List ℕ) → closing_at false tail ≡ None → closed_len n (91 ∷ tail) ≡ 0
unfolding closed_len
never_closed zero tail h = refl
never_closed (suc n) tail h =
    let fails : is_closed (91 ∷ take n tail) ≡ false = in_bracket (take n tail) ∙ never_split false tail n h in
    rw fails (never_closed n tail h)

first_open : (tail : List ℕ) → closing_at false tail ≡ None → StaysOpen (91 ∷ tail)
first_open tail h =
    let all : is_split (Bracket false) tail ≡ false =
    ap (is_split (Bracket false)) (sym (take_all (length tail) tail (omega arith))) ∙ never_split false tail (length tail) h in
    let fails : is_closed (91 ∷ tail) ≡ false = in_bracket tail ∙ all in
    let none : closed_len (length (91 ∷ tail)) (91 ∷ tail) ≡ 0 = never_closed (length (91 ∷ tail)) tail h in
    ap (λ (t : Bool). cond t None (Some (closed_len (length (91 ∷ tail)) (91 ∷ tail), drop (closed_len (length (91 ∷ tail)) (91 ∷ tail)) (91 ∷ tail)))) fails
    ∙ ap (λ (n : ℕ). Some (n, drop n (91 ∷ tail))) none

pub stays_open : (bs tail : List ℕ) → 0 < length bs → get_or bs 0 0 ≡ 91 → tail ≡ drop 1 bs → closing_at false tail ≡ None → StaysOpen bs
stays_open [] tail some first is h = absurd (omega (arith, some))
stays_open (b ∷ bs) tail some first is h =
    let whole : 91 ∷ tail ≡ b ∷ bs = ap (λ (xs : List ℕ). 91 ∷ xs) is ∙ ap (λ (x : ℕ). x ∷ bs) (sym first) in
    subst StaysOpen whole (first_open tail h)

-- AFTER SOME BYTES THAT ARE CLOSED

pub skip_both : (line : List ℕ) (first later : ℕ) → Skips first line → Skips later (drop first line) → Skips (first + later) line
skip_both line first later one other = record {
  within = omega (arith, one.within, other.within, length-drop first line);
  after =
      λ more.
      let sum : first + later + more ≡ first + (later + more) = omega arith in
      ap (λ (k : ℕ). is_closed (take k line)) sum ∙ one.after (later + more) ∙ other.after more
      ∙ ap (λ (xs : List ℕ). is_closed (take more xs)) (drop-drop later first line);
}

module _ (line : List ℕ) (n : ℕ) (skips : Skips n line) where
  closed_before : (k : ℕ) → k ≡ n → closed_len k line ≡ n
  unfolding closed_len
  closed_before zero e = e
  closed_before (suc k) e =
      let sum : suc k ≡ n + 0 = omega (arith, e) in
      let closed : is_closed (take (suc k) line) ≡ true = ap (λ (m : ℕ). is_closed (take m line)) sum ∙ skips.after 0 ∙ empty_closed in
      rw closed e

  closed_after : (more : ℕ) → closed_len (n + more) line ≡ n + closed_len more (drop n line)
  unfolding closed_len
  closed_after zero =
      let sum : n + 0 ≡ n = omega arith in
      ap (λ (k : ℕ). closed_len k line) sum ∙ closed_before n refl ∙ sym sum
  closed_after (suc more) =
      let sum : n + suc more ≡ suc (n + more) = omega arith in
      let same : is_closed (take (suc (n + more)) line) ≡ is_closed (take (suc more) (drop n line)) =
      ap (λ (k : ℕ). is_closed (take k line)) (sym sum) ∙ skips.after (suc more) in
      ap (λ (k : ℕ). closed_len k line) sum
      ∙ ap (λ (t : Bool). cond t (suc (n + more)) (closed_len (n + more) line)) same
      ∙ elim (is_closed (take (suc more) (drop n line))) as (λ (t : Bool).
      cond t (suc (n + more)) (closed_len (n + more) line) ≡ n + cond t (suc more) (closed_len more (drop n line))) [
        | true ↦ sym sum
        | false ↦ closed_after more
      ]

  size : length line ≡ n + length (drop n line)
  size = omega (arith, skips.within, length-drop n line)

  whole_closed : is_closed line ≡ is_closed (drop n line)
  whole_closed =
      let left = drop n line in
      ap is_closed (sym (take_all (length line) line (omega arith)))
      ∙ ap (λ (k : ℕ). is_closed (take k line)) size ∙ skips.after (length left)
      ∙ ap is_closed (take_all (length left) left (omega arith))

  pub skip_piece : open_piece line ≡ option_map (shifted n) (open_piece (drop n line))
  skip_piece =
      let left = drop n line in
      let len : closed_len (length line) line ≡ n + closed_len (length left) left =
      ap (λ (k : ℕ). closed_len k line) size ∙ closed_after (length left) in
      ap (λ (t : Bool). cond t None (Some (closed_len (length line) line, drop (closed_len (length line) line) line))) whole_closed
      ∙ ap (λ (k : ℕ). cond (is_closed left) None (Some (k, drop k line))) len
      ∙ ap (λ (xs : List ℕ). cond (is_closed left) None (Some (n + closed_len (length left) left, xs)))
      (sym (drop-drop (closed_len (length left) left) n line))
      ∙ (elim (is_closed left) as (λ (t : Bool).
      cond t None (Some (n + closed_len (length left) left, drop (closed_len (length left) left) left))
      ≡ option_map (shifted n) (cond t None (Some (closed_len (length left) left, drop (closed_len (length left) left) left)))) [
        | true ↦ refl
        | false ↦ refl
      ])

pub no_open : (line : List ℕ) → length line ≡ 0 → open_piece line ≡ None
no_open [] e = ap (λ (t : Bool). cond t None (Some (closed_len 0 [], drop (closed_len 0 []) []))) empty_closed
no_open (b ∷ bs) e = absurd (omega (arith, e))

-- A PART OF THE LINE

closed_within : (n : ℕ) (line : List ℕ) → closed_len n line ≤ n
unfolding closed_len
closed_within zero line = omega arith
closed_within (suc n) line =
    elim (is_closed (take (suc n) line)) as (λ (t : Bool). cond t (suc n) (closed_len n line) ≤ suc n) [
      | true ↦ omega arith
      | false ↦ omega (arith, closed_within n line)
    ]

rest_part : (line : List ℕ) (n : ℕ) → n ≤ length line → IsPart line (n, drop n line)
rest_part line n fits = record { within = omega (arith, fits, length-drop n line); there = take_all (length (drop n line)) (drop n line) (omega arith) }

pub open_part : (line : List ℕ) (piece : ℕ × List ℕ) → open_piece line ≡ Some piece → IsPart line piece
open_part line piece h =
    elim (is_closed line) as (λ (t : Bool).
    cond t None (Some (closed_len (length line) line, drop (closed_len (length line) line) line)) ≡ Some piece → IsPart line piece) [
      | true ↦ λ g. absurd (cc)
      | false ↦ λ g.
          let is : (closed_len (length line) line, drop (closed_len (length line) line) line) ≡ piece = cc in
          subst (IsPart line) is (rest_part line (closed_len (length line) line) (closed_within (length line) line))
    ] h

-- what is after the blanks begins with none
pub begins_word : (rest : List ℕ) (n : ℕ) (word : List ℕ) → n ≡ prefix_len is_text_blank rest → word ≡ drop n rest → (length word ≡ 0 → ⊥)
    → is_text_blank (get_or word 0 0) ≡ false
begins_word rest n word e back some =
    let blanks = prefix_len is_text_blank rest in
    let cut : word ≡ drop blanks rest = back ∙ ap (λ (k : ℕ). drop k rest) e in
    let size : length word ≡ length rest - blanks = ap length cut ∙ length-drop blanks rest in
    let sum : blanks + 0 ≡ blanks = omega arith in
    ap (λ (xs : List ℕ). is_text_blank (get_or xs 0 0)) cut
    ∙ ap is_text_blank (get_or-drop blanks rest 0 0 ∙ ap (λ (k : ℕ). get_or rest k 0) sum)
    ∙ prefix_len_stops is_text_blank rest 0 (omega (arith, size, some))
