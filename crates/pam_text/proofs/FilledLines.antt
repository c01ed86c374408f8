-- What is passed over before a line: blanks, comments and blank lines.
use Rattle.std.proofs.Common.{◌≡◌, ◌≤◌, ◌==◌, ◌||◌, if◌then◌else◌, add-zero, ◌+◌, ◌∙◌, Bool, cond, sym, ap, refl, one-add, arith}
use Rattle.std.proofs.Common.{ℕ, true, false, not, List, [], ◌∷◌, drop, eqb}
use Rattle.std.specs.List.{prefix_len}
use Rattle.std.proofs.lemmas.Bool.{eqb-true, false≢true}
use Rattle.pam_text.specs.Blanks.{is_text_blank}
use Rattle.pam_text.specs.Text.{FileByte, text_of, text_lines, onto_line, first_line, after_line, filled_lines}
use Rattle.pam_text.specs.inner.Text.{past_comment, is_plain}
use Rattle.pam_text.proofs.Runs.{plain_step}
use Rattle.pam_text.proofs.TextLines.{HeadIs, head_is, first_of}
use Rattle.pam_text.proofs.TextSteps.{skipped, step_feed, unequal}

onto_blank : (l b : ℕ) (line : ℕ × List ℕ) (lines : List (ℕ × List ℕ)) → is_text_blank b ≡ true → line.0 ≡ l
    → filled_lines (onto_line (l, b) (line ∷ lines)) ≡ filled_lines (line ∷ lines)
unfolding filled_lines
onto_blank l b line lines h e = rw (h, e) refl

last_blank : (l b : ℕ) → is_text_blank b ≡ true → filled_lines (onto_line (l, b) []) ≡ []
unfolding filled_lines
last_blank l b h = rw h refl

no_blank : (b c : ℕ) → is_text_blank c ≡ false → is_text_blank b ≡ true → eqb b c ≡ false
no_blank b c f h = unequal b c (λ e. false≢true (sym f ∙ sym (ap is_text_blank e) ∙ h))

-- a byte that is no line feed begins or goes on a line
on_line : (l b : ℕ) (ms : List FileByte) → eqb b 10 ≡ false → text_lines ((l, b) ∷ ms) ≡ onto_line (l, b) (text_lines ms)
unfolding text_lines
on_line l b ms n = rw n refl

blank_before : (l b : ℕ) (ms : List FileByte) → is_text_blank b ≡ true → HeadIs l ms
    → filled_lines (onto_line (l, b) (text_lines ms)) ≡ filled_lines (text_lines ms)
unfolding HeadIs text_lines filled_lines
blank_before l b [] h e = last_blank l b h
blank_before l b (m ∷ ms) h e = rw (first_of m ms) (onto_blank l b (m.0, first_line (m ∷ ms)) (text_lines (after_line (m ∷ ms))) h e)

plain_blank : (b : ℕ) → is_text_blank b ≡ true → is_plain b ≡ true
plain_blank b h = rw (no_blank b 10 refl h, no_blank b 35 refl h, no_blank b 92 refl h) refl

-- the filled lines of a file that begins in this line
abbrev filled_of : ℕ → List ℕ → List (ℕ × List ℕ)
filled_of l bs = filled_lines (text_lines (text_of l bs))

blank_passed : (l b : ℕ) (bs : List ℕ) → is_text_blank b ≡ true → filled_of l (b ∷ bs) ≡ filled_of l bs
unfolding text_lines
blank_passed l b bs h =
    ap (λ (ms : List FileByte). filled_lines (text_lines ms)) (plain_step b bs l (plain_blank b h))
    ∙ ap filled_lines (on_line l b (text_of l bs) (no_blank b 10 refl h))
    ∙ blank_before l b (text_of l bs) h (head_is l bs)

feed_passed : (l : ℕ) (bs : List ℕ) → filled_of l (10 ∷ bs) ≡ filled_of (l + 1) bs
unfolding text_lines filled_lines past_comment
feed_passed l bs = ap (λ (ms : List FileByte). filled_lines (text_lines ms)) (step_feed (10 ∷ bs) bs l refl)

comment_passed : (l : ℕ) (bs : List ℕ) → text_of l (35 ∷ bs) ≡ text_of l (drop (prefix_len (λ c. not (eqb c 10)) bs) bs)
unfolding past_comment
comment_passed l bs = skipped l (35 ∷ bs) ∙ rw one-add refl

or_left : (t : Bool) → (t || false) ≡ true → t ≡ true
or_left true h = refl
or_left false h = h

pub feeds_fit : (b k : ℕ) → k ≡ (if b == 10 then 1 else 0) → k ≤ 1
feeds_fit b k e = elim (eqb b 10) as (λ (t : Bool). k ≡ cond t 1 0 → k ≤ 1) [ true ↦ λ f. omega arith | false ↦ λ f. omega arith ] e

module _ (l b : ℕ) (bs after : List ℕ) (lines : List (ℕ × List ℕ)) (front : bs ≡ b ∷ after) (before : filled_of l bs ≡ lines) where
  from_first : (c : ℕ) → b ≡ c → filled_of l (c ∷ after) ≡ lines
  from_first c e = ap (λ (d : ℕ). filled_of l (d ∷ after)) (sym e) ∙ ap (filled_of l) (sym front) ∙ before

  pub past_byte : (is_text_blank b || b == 10) ≡ true → (k : ℕ) → k ≡ (if b == 10 then 1 else 0) → filled_of (l + k) after ≡ lines
  past_byte h k e =
      elim (eqb b 10) as (λ (t : Bool). eqb b 10 ≡ t → k ≡ cond t 1 0 → filled_of (l + k) after ≡ lines) [
        | true ↦ λ f g. rw g (sym (feed_passed l after) ∙ from_first 10 (eqb-true b 10 f))
        | false ↦ λ f g. rw (g, add-zero) (sym (blank_passed l b after (or_left (is_text_blank b) (rw f at h))) ∙ from_first b refl)
      ] refl e

  pub past_hash : b ≡ 35 → (n : ℕ) (rest : List ℕ) → n ≡ prefix_len (λ c. not (eqb c 10)) after → rest ≡ drop n after → filled_of l rest ≡ lines
  past_hash e n rest k f = rw (f, k) (ap (λ (ms : List FileByte). filled_lines (text_lines ms)) (sym (comment_passed l after)) ∙ from_first 35 e)
