-- The line with a number as the first of the file from its line feeds on.
use Rattle.std.proofs.Common.{◌≡◌, ◌≤◌, ◌<◌, ◌+◌, ◌-◌, ◌∙◌, ◌⊎◌, inl, inr, ⊎_elim, ℕ, zero, suc, Bool, true, false, not, List, [], ◌∷◌, Option, None, Some, length, drop, cond, eqb, ap, sym, refl, arith, one-add, add-one, length-drop, subst}
use Rattle.std.proofs.lemmas.Bool.{cases_eq, eq-eqb, eqb-true}
use Rattle.std.specs.List.{prefix_len}
use Rattle.pam_text.proofs.TextLines.{head_is, lines_step}
use Rattle.pam_text.proofs.TextSteps.{no_comment, skipped, step_backslash, step_feed, step_joined, step_none, step_plain, unequal}
use Rattle.pam_text.specs.Text.{FileByte, after_line, first_line, text_lines, text_of}
use Rattle.pam_text.specs.inner.Text.{past_comment}
use Rattle.pam_findings.specs.misspelled.Lines.{line_at}
use Rattle.pam_findings.specs.misspelled.Spots.{after_feed, after_feeds, is_feed, line_len}
use Rattle.pam_findings.proofs.MisspelledProofs.ReadLines.{line_at-first, line_at-later}

-- LINE FEEDS

pub feed_here : (bs : List ℕ) → after_feed (10 ∷ bs) ≡ bs
feed_here bs = refl

pub feed_later : (b : ℕ) (bs : List ℕ) → (b ≡ 10 → ⊥) → after_feed (b ∷ bs) ≡ after_feed bs
feed_later b bs n =
    let other : eqb b 10 ≡ false = unequal b 10 n in
    let more : line_len (b ∷ bs) ≡ 1 + line_len bs = ap (λ (t : Bool). cond (not t) (1 + line_len bs) 0) other in
    let sum : 1 + line_len bs + 1 ≡ suc (line_len bs + 1) = omega arith in
    ap (λ (n : ℕ). drop (n + 1) (b ∷ bs)) more ∙ ap (λ (n : ℕ). drop n (b ∷ bs)) sum

-- the first feed may be passed before the others
pub feeds_after : (passed : ℕ) (bs : List ℕ) → after_feeds passed (after_feed bs) ≡ after_feeds (suc passed) bs
unfolding after_feeds
feeds_after zero bs = refl
feeds_after (suc passed) bs = ap after_feed (feeds_after passed bs)

pub feeds_sum : (first later : ℕ) (bs : List ℕ) → after_feeds later (after_feeds first bs) ≡ after_feeds (first + later) bs
unfolding after_feeds
feeds_sum first zero bs = let same : first ≡ first + 0 = omega arith in ap (λ (n : ℕ). after_feeds n bs) same
feeds_sum first (suc later) bs =
    let same : suc (first + later) ≡ first + suc later = omega arith in
    ap after_feed (feeds_sum first later bs) ∙ ap (λ (n : ℕ). after_feeds n bs) same

-- after a comment comes its line feed
comment_feed : (bs r : List ℕ) → drop (line_len bs) bs ≡ 10 ∷ r → after_feed bs ≡ r
comment_feed [] r h = absurd (cc)
comment_feed (b ∷ bs) r h =
    elim (eqb b 10) as (λ (t : Bool). eqb b 10 ≡ t → drop (cond (not t) (1 + line_len bs) 0) (b ∷ bs) ≡ 10 ∷ r → after_feed (b ∷ bs) ≡ r) [
      | true ↦ λ e g. let is : b ≡ 10 = eqb-true b 10 e in rw is (let same : bs ≡ r = cc in same)
      | false ↦ λ e g.
          feed_later b bs (λ is. let yes = eq-eqb b 10 is in absurd (cc)) ∙ comment_feed bs r (rw one-add at g)
    ] refl h

comment_first : (bs : List ℕ) (b : ℕ) (r : List ℕ) → drop (line_len bs) bs ≡ b ∷ r → b ≡ 10
comment_first [] b r h = absurd (cc)
comment_first (a ∷ bs) b r h =
    elim (eqb a 10) as (λ (t : Bool). eqb a 10 ≡ t → drop (cond (not t) (1 + line_len bs) 0) (a ∷ bs) ≡ b ∷ r → b ≡ 10) [
      | true ↦ λ e g. let is : a ≡ 10 = eqb-true a 10 e in let same : a ≡ b = cc in sym same ∙ is
      | false ↦ λ e g. comment_first bs b r (rw one-add at g)
    ] refl h

pub feed_first : (bs r : List ℕ) → past_comment bs ≡ 10 ∷ r → after_feed bs ≡ r
unfolding past_comment
feed_first [] r h = absurd (cc)
feed_first (b ∷ bs) r h =
    elim (eqb b 35) as (λ (t : Bool). cond t (drop (line_len (b ∷ bs)) (b ∷ bs)) (b ∷ bs) ≡ 10 ∷ r → after_feed (b ∷ bs) ≡ r) [
      | true ↦ λ g. comment_feed (b ∷ bs) r g
      | false ↦ λ g. let is : b ≡ 10 = cc in let same : bs ≡ r = cc in rw is same
    ] h

-- another byte after a comment is the first byte
pub whole_first : (bs : List ℕ) (b : ℕ) (r : List ℕ) → past_comment bs ≡ b ∷ r → (b ≡ 10 → ⊥) → bs ≡ b ∷ r
unfolding past_comment
whole_first [] b r h n = absurd (cc)
whole_first (a ∷ bs) b r h n =
    elim (eqb a 35) as (λ (t : Bool). cond t (drop (line_len (a ∷ bs)) (a ∷ bs)) (a ∷ bs) ≡ b ∷ r → a ∷ bs ≡ b ∷ r) [
      | true ↦ λ g. absurd (n (comment_first (a ∷ bs) b r g))
      | false ↦ λ g. g
    ] h

pub other_first : (bs : List ℕ) (b : ℕ) (r : List ℕ) → past_comment bs ≡ b ∷ r → (b ≡ 10 → ⊥) → after_feed bs ≡ after_feed r
other_first bs b r h n = ap after_feed (whole_first bs b r h n) ∙ feed_later b r n

pub slash_stays : ◌≡◌ {A = ℕ} 92 10 → ⊥
slash_stays e = omega (arith, e)

blank_stays : ◌≡◌ {A = ℕ} 32 10 → ⊥
blank_stays e = omega (arith, e)

-- THE TEXT AFTER A LINE

-- what is left after the first line is nothing, or the text of the file after some line feeds
pub data IsOnward (l : ℕ) (bs : List ℕ) (left : List FileByte) : Type 0 where
  ended : left ≡ [] → IsOnward l bs left
  onward : (passed : ℕ) → left ≡ text_of (l + suc passed) (after_feeds (suc passed) bs) → length (after_feeds (suc passed) bs) < length bs
      → IsOnward l bs left

feed_shorter : (bs : List ℕ) → 0 < length bs → length (after_feed bs) < length bs
feed_shorter bs some = omega (arith, length-drop (line_len bs + 1) bs)

not_empty : (bs : List ℕ) (b : ℕ) (r : List ℕ) → past_comment bs ≡ b ∷ r → 0 < length bs
unfolding past_comment
not_empty [] b r h = absurd (cc)
not_empty (a ∷ bs) b r h = omega arith

-- where the line goes on after its first byte
same_line : (l : ℕ) (bs r : List ℕ) (left : List FileByte) → after_feed bs ≡ after_feed r → length r ≤ length bs → IsOnward l r left → IsOnward l bs left
same_line l bs r left same less (ended e) = ended e
same_line l bs r left same less (onward passed e f) =
    let feeds : after_feeds (suc passed) r ≡ after_feeds (suc passed) bs =
    sym (feeds_after passed r) ∙ ap (after_feeds passed) (sym same) ∙ feeds_after passed bs in
    onward passed (e ∙ ap (text_of (l + suc passed)) feeds) (omega (arith, less, ap length (sym feeds), f))

next_line : (l : ℕ) (bs more : List ℕ) (left : List FileByte) → after_feed bs ≡ more → length more < length bs → IsOnward (l + 1) more left → IsOnward l bs left
next_line l bs more left next less (ended e) = ended e
next_line l bs more left next less (onward passed e f) =
    let feeds : after_feeds (suc passed) more ≡ after_feeds (suc (suc passed)) bs =
    ap (after_feeds (suc passed)) (sym next) ∙ feeds_after (suc passed) bs in
    let sum : l + 1 + suc passed ≡ l + suc (suc passed) = omega arith in
    onward (suc passed) (e ∙ ap (λ (n : ℕ). text_of n (after_feeds (suc passed) more)) sum ∙ ap (text_of (l + suc (suc passed))) feeds)
    (omega (arith, less, ap length (sym feeds), f))

no_end : (m : FileByte) (ms : List FileByte) → (m.1 ≡ 10 → ⊥) → after_line (m ∷ ms) ≡ after_line ms
no_end m ms n = ap (λ (t : Bool). cond t ms (after_line ms)) (unequal m.1 10 n)

abbrev Goes : ℕ → List ℕ → Type 0
Goes l bs = IsOnward l bs (after_line (text_of l bs))

-- if shorter texts go on so
module _ (fuel : ℕ) (shorter : (l : ℕ) (bs : List ℕ) → length bs ≤ fuel → Goes l bs) (l : ℕ) (bs : List ℕ) (fits : length bs ≤ suc fuel) where
  at_feed : (r : List ℕ) → past_comment bs ≡ 10 ∷ r → Goes l bs
  unfolding after_feeds
  at_feed r h =
      let feed : after_feed bs ≡ r = feed_first bs r h in
      let is : after_line (text_of l bs) ≡ text_of (l + 1) (after_feed bs) = ap after_line (step_feed bs r l h) ∙ ap (text_of (l + 1)) (sym feed) in
      let sum : l + 1 ≡ l + suc 0 = omega arith in
      onward 0 (is ∙ ap (λ (n : ℕ). text_of n (after_feed bs)) sum) (feed_shorter bs (not_empty bs 10 r h))

  at_joint : (r more : List ℕ) → past_comment bs ≡ 92 ∷ r → past_comment r ≡ 10 ∷ more → Goes l bs
  at_joint r more h k =
      let feed : after_feed bs ≡ more = other_first bs 92 r h slash_stays ∙ feed_first r more k in
      let less : length more < length bs = omega (arith, feed_shorter bs (not_empty bs 92 r h), ap length feed) in
      let is : after_line (text_of l bs) ≡ after_line (text_of (l + 1) more) =
      ap after_line (step_joined bs r more l h k) ∙ no_end (l, 32) (text_of (l + 1) more) blank_stays in
      subst (IsOnward l bs) (sym is) (next_line l bs more (after_line (text_of (l + 1) more)) feed less (shorter (l + 1) more (omega (arith, less, fits))))

  at_byte : (b : ℕ) (r : List ℕ) → past_comment bs ≡ b ∷ r → (b ≡ 10 → ⊥) → text_of l bs ≡ (l, b) ∷ text_of l r → Goes l bs
  at_byte b r h n step =
      let size : length bs ≡ length (b ∷ r) = ap length (whole_first bs b r h n) in
      let is : after_line (text_of l bs) ≡ after_line (text_of l r) = ap after_line step ∙ no_end (l, b) (text_of l r) n in
      subst (IsOnward l bs) (sym is)
      (same_line l bs r (after_line (text_of l r)) (other_first bs b r h n) (omega (arith, size)) (shorter l r (omega (arith, size, fits))))

  at_backslash : (r s : List ℕ) → past_comment bs ≡ 92 ∷ r → past_comment r ≡ s → Goes l bs
  at_backslash r [] h k =
      at_byte 92 r h slash_stays (step_backslash bs r l h (λ more e. let clash : [] ≡ 10 ∷ more = sym k ∙ e in absurd (cc)))
  at_backslash r (c ∷ s) h k = elim (cases_eq c 10) [
    | inl e ↦ at_joint r s h (k ∙ ap (λ (x : ℕ). x ∷ s) e)
    | inr n ↦ at_byte 92 r h slash_stays (step_backslash bs r l h (λ more e. let clash : c ∷ s ≡ 10 ∷ more = sym k ∙ e in n (cc)))
  ]

  at_first : (s : List ℕ) → past_comment bs ≡ s → Goes l bs
  at_first [] h = ended (ap after_line (step_none bs l h))
  at_first (b ∷ r) h = elim (cases_eq b 10) [
    | inl e ↦ at_feed r (h ∙ ap (λ (x : ℕ). x ∷ r) e)
    | inr n ↦ elim (cases_eq b 92) [
      | inl e ↦ at_backslash r (past_comment r) (h ∙ ap (λ (x : ℕ). x ∷ r) e) refl
      | inr m ↦ at_byte b r h n (step_plain bs b r l h n m)
    ]
  ]

nothing_first : (bs : List ℕ) → length bs ≡ 0 → past_comment bs ≡ []
unfolding past_comment
nothing_first [] h = refl
nothing_first (b ∷ bs) h = absurd (omega (arith, h))

goes_on : (fuel l : ℕ) (bs : List ℕ) → length bs ≤ fuel → Goes l bs
goes_on zero l bs fits =
    let none : past_comment bs ≡ [] = nothing_first bs (omega (arith, fits)) in
    ended (ap after_line (step_none bs l none))
goes_on (suc fuel) l bs fits = at_first fuel (goes_on fuel) l bs fits (past_comment bs) refl

-- THE LINE WITH A NUMBER

pub record IsLine (l number : ℕ) (bs line : List ℕ) : Type 0 where
  pub below : l ≤ number
  pub is : line ≡ first_line (text_of number (after_feeds (number - l) bs))

no_line : (ms : List FileByte) (number : ℕ) (line : List ℕ) → ms ≡ [] → line_at (text_lines ms) number ≡ Some line → ⊥
unfolding text_lines
no_line ms number line e h = let none : line_at (text_lines ms) number ≡ None = ap (λ (t : List FileByte). line_at (text_lines t) number) e in absurd (cc)

module _ (fuel : ℕ) (shorter : (l number : ℕ) (bs line : List ℕ) → length bs ≤ fuel → line_at (text_lines (text_of l bs)) number ≡ Some line
    → IsLine l number bs line) (l number : ℕ) (bs line : List ℕ) (fits : length bs ≤ suc fuel) where
  in_later : (left : List FileByte) → IsOnward l bs left → line_at (text_lines left) number ≡ Some line → IsLine l number bs line
  in_later left (ended e) h = absurd (no_line left number line e h)
  in_later left (onward passed e less) h =
      let at : line_at (text_lines (text_of (l + suc passed) (after_feeds (suc passed) bs))) number ≡ Some line =
      ap (λ (t : List FileByte). line_at (text_lines t) number) (sym e) ∙ h in
      let found = shorter (l + suc passed) number (after_feeds (suc passed) bs) line (omega (arith, less, fits)) at in
      let sum : suc passed + (number - (l + suc passed)) ≡ number - l = omega (arith, found.below) in
      record {
        below = omega (arith, found.below);
        is =
            found.is ∙ ap (λ (s : List ℕ). first_line (text_of number s)) (feeds_sum (suc passed) (number - (l + suc passed)) bs)
            ∙ ap (λ (n : ℕ). first_line (text_of number (after_feeds n bs))) sum;
      }

  in_first : l ≡ number → line ≡ first_line (text_of l bs) → IsLine l number bs line
  unfolding after_feeds
  in_first same e =
      let none : 0 ≡ number - l = omega (arith, same) in
      record {
        below = omega (arith, same);
        is =
            e ∙ ap (λ (n : ℕ). first_line (text_of n bs)) same
            ∙ ap (λ (n : ℕ). first_line (text_of number (after_feeds n bs))) none;
      }

  in_text : (text : List FileByte) → text_of l bs ≡ text → line_at (text_lines (text_of l bs)) number ≡ Some line → IsLine l number bs line
  in_text [] e h = absurd (no_line (text_of l bs) number line e h)
  in_text (m ∷ ms) e h =
      let some : text_of l bs ≡ [] → ⊥ = λ none. let clash : m ∷ ms ≡ [] = sym e ∙ none in absurd (cc) in
      let lines : text_lines (text_of l bs) ≡ (l, first_line (text_of l bs)) ∷ text_lines (after_line (text_of l bs)) =
      lines_step l (text_of l bs) (head_is l bs) some in
      let at : line_at ((l, first_line (text_of l bs)) ∷ text_lines (after_line (text_of l bs))) number ≡ Some line =
      ap (λ ls. line_at ls number) (sym lines) ∙ h in
      elim (cases_eq l number) [
        | inl same ↦
            let here : Some (first_line (text_of l bs)) ≡ Some line =
            sym (line_at-first l (first_line (text_of l bs)) (text_lines (after_line (text_of l bs))))
            ∙ ap (line_at ((l, first_line (text_of l bs)) ∷ text_lines (after_line (text_of l bs)))) same ∙ at in
            let is : first_line (text_of l bs) ≡ line = cc in
            in_first same (sym is)
        | inr other ↦
            in_later (after_line (text_of l bs)) (goes_on (length bs) l bs (omega arith))
            (sym (line_at-later l number (first_line (text_of l bs)) (text_lines (after_line (text_of l bs))) other) ∙ at)
      ]

no_text : (l number : ℕ) (bs line : List ℕ) → length bs ≡ 0 → line_at (text_lines (text_of l bs)) number ≡ Some line → ⊥
no_text l number bs line e h = no_line (text_of l bs) number line (step_none bs l (nothing_first bs e)) h

found_within : (fuel l number : ℕ) (bs line : List ℕ) → length bs ≤ fuel → line_at (text_lines (text_of l bs)) number ≡ Some line → IsLine l number bs line
found_within zero l number bs line fits h = absurd (no_text l number bs line (omega (arith, fits)) h)
found_within (suc fuel) l number bs line fits h = in_text fuel (found_within fuel) l number bs line fits (text_of l bs) refl h

-- the line with a number is the first one after as many line feeds as are before it
pub line_found : (l number : ℕ) (bs line : List ℕ) → line_at (text_lines (text_of l bs)) number ≡ Some line → IsLine l number bs line
line_found l number bs line h = found_within (length bs) l number bs line (omega arith) h
