-- What no finding means for the lines and rules of a file.
use Rattle.std.proofs.Common.{◌≡◌, ◌≤◌, ◌+◌, ◌&&◌, ◌||◌, ◌++◌, ◌∙◌, ℕ, Bool, true, false, List, [], ◌∷◌, map, length, take, drop, cond, ap, sym, refl, arith}
use Rattle.std.specs.Prelude.{nat_lt}
use Rattle.std.specs.List.{prefix_len}
use Rattle.std.proofs.lemmas.Bool.{lt-ltb, ltb-false}
use Rattle.pam_text.specs.Text.{text_lines, text_of}
use Rattle.pam_conf.specs.Words.{State, Between}
use Rattle.pam_conf.specs.declared.rule.Form.{Form}
use Rattle.pam_released.specs.Bracket.{state_after}
use Rattle.pam_released.specs.Findings.{comes_before, differences_at, drops_blank, ends_the_file, findings_of, goes_on_over_blank, has_backslash_blank}
use Rattle.pam_released.specs.Findings.{has_backslash_comment, has_return, is_cut, line_findings, located, merged, rule_findings, those, used_after}
use Rattle.pam_released.specs.Lines.{goes_on, is_blank_line, physical_lines}
use Rattle.pam_released.specs.declared.difference.Difference.{Difference}
use Rattle.pam_released.specs.declared.difference.Difference.TheVariants.{CarriageReturn, ContinuedOverBlank, BackslashBlank, BackslashComment}
use Rattle.pam_released.specs.declared.difference.Difference.TheVariants.{EndsInContinuation, LongLine, DroppedBlank}
use Rattle.pam_released.specs.declared.finding.Finding.{Finding}
use Rattle.pam_released.proofs.LineTests.{has_dropped_blank, is_line_read_otherwise, is_too_long}

pub none_of : {X : Type 0} (xs ys : List X) → xs ++ ys ≡ [] → (xs ≡ []) × (ys ≡ [])
none_of [] ys h = (refl, h)
none_of (x ∷ xs) ys h = absurd (cc)

none_merged : (findings others : List Finding) → merged findings others ≡ [] → (findings ≡ []) × (others ≡ [])
unfolding merged
none_merged [] others h = (refl, h)
none_merged (f ∷ findings) others h =
    let parts = none_of (take (prefix_len (comes_before f) others) others)
    (f ∷ merged findings (drop (prefix_len (comes_before f) others) others)) h in
    let no : (f ∷ merged findings (drop (prefix_len (comes_before f) others) others)) ≡ [] = parts.1 in
    absurd (cc)

pub none_located : (n : ℕ) (ds : List Difference) → map (located n) ds ≡ [] → ds ≡ []
none_located n [] h = refl
none_located n (d ∷ ds) h = absurd (cc)

pub none_if : (t : Bool) (d : Difference) (more : List (Bool × Difference)) → those ((t, d) ∷ more) ≡ [] → (t ≡ false) × (those more ≡ [])
none_if true d more h = absurd (cc)
none_if false d more h = (refl, h)

-- no difference at a line
pub record Quiet (used : ℕ) (state : State) (line : List ℕ) (rest : List (List ℕ)) : Type 0 where
  pub return : has_return line ≡ false
  pub over : goes_on_over_blank line rest ≡ false
  pub blank : has_backslash_blank line ≡ false
  pub comment : has_backslash_comment line ≡ false
  pub ends : ends_the_file line rest ≡ false
  pub cut : is_cut used line ≡ false
  pub drops : drops_blank state line ≡ false

-- the tests from a number on
abbrev from_9 : State → List ℕ → List (Bool × Difference)
from_9 state line = (drops_blank state line, DroppedBlank) ∷ []

abbrev from_7 : ℕ → State → List ℕ → List (Bool × Difference)
from_7 used state line = (is_cut used line, LongLine) ∷ from_9 state line

abbrev from_5 : ℕ → State → List ℕ → List (List ℕ) → List (Bool × Difference)
from_5 used state line rest = (ends_the_file line rest, EndsInContinuation) ∷ from_7 used state line

abbrev from_4 : ℕ → State → List ℕ → List (List ℕ) → List (Bool × Difference)
from_4 used state line rest = (has_backslash_comment line, BackslashComment) ∷ from_5 used state line rest

abbrev from_3 : ℕ → State → List ℕ → List (List ℕ) → List (Bool × Difference)
from_3 used state line rest = (has_backslash_blank line, BackslashBlank) ∷ from_4 used state line rest

abbrev from_2 : ℕ → State → List ℕ → List (List ℕ) → List (Bool × Difference)
from_2 used state line rest = (goes_on_over_blank line rest, ContinuedOverBlank) ∷ from_3 used state line rest

quiet : (used : ℕ) (state : State) (line : List ℕ) (rest : List (List ℕ)) → differences_at used state line rest ≡ [] → Quiet used state line rest
unfolding differences_at
quiet used state line rest h =
    let a = none_if (has_return line) CarriageReturn (from_2 used state line rest) h in
    let b = none_if (goes_on_over_blank line rest) ContinuedOverBlank (from_3 used state line rest) a.1 in
    let c = none_if (has_backslash_blank line) BackslashBlank (from_4 used state line rest) b.1 in
    let d = none_if (has_backslash_comment line) BackslashComment (from_5 used state line rest) c.1 in
    let e = none_if (ends_the_file line rest) EndsInContinuation (from_7 used state line) d.1 in
    let f = none_if (is_cut used line) LongLine (from_9 state line) e.1 in
    record {
      return = a.0;
      over = b.0;
      blank = c.0;
      comment = d.0;
      ends = e.0;
      cut = f.0;
      drops = (none_if (drops_blank state line) DroppedBlank [] f.1).0;
    }

quiet_line : (n used : ℕ) (state : State) (line : List ℕ) (rest : List (List ℕ)) → line_findings n used state (line ∷ rest) ≡ [] →
    Quiet used state line rest × (line_findings (n + 1) (used_after used line) (state_after state line) rest ≡ [])
unfolding line_findings
quiet_line n used state line rest h =
    let parts = none_of (map (located n) (differences_at used state line rest))
    (line_findings (n + 1) (used_after used line) (state_after state line) rest) h in
    (quiet used state line rest (none_located n (differences_at used state line rest) parts.0), parts.1)

or_none : (t u : Bool) → t ≡ false → u ≡ false → (t || u) ≡ false
or_none t u h k = rw h k

and_true : (t : Bool) → (t && true) ≡ false → t ≡ false
and_true true h = h
and_true false h = refl

none_otherwise : (n used : ℕ) (state : State) (lines : List (List ℕ)) → line_findings n used state lines ≡ [] → is_line_read_otherwise lines ≡ false
unfolding is_line_read_otherwise
none_otherwise n used state [] h = refl
none_otherwise n used state (line ∷ []) h =
    let (q, rest) = quiet_line n used state line [] h in
    or_none (has_return line || has_backslash_blank line || has_backslash_comment line) (goes_on line)
    (or_none (has_return line || has_backslash_blank line) (has_backslash_comment line)
    (or_none (has_return line) (has_backslash_blank line) q.return q.blank) q.comment)
    (and_true (goes_on line) q.ends)
none_otherwise n used state (line ∷ next ∷ lines) h =
    let (q, rest) = quiet_line n used state line (next ∷ lines) h in
    or_none (has_return line || has_backslash_blank line || has_backslash_comment line || goes_on_over_blank line (next ∷ lines))
    (is_line_read_otherwise (next ∷ lines))
    (or_none (has_return line || has_backslash_blank line || has_backslash_comment line) (goes_on_over_blank line (next ∷ lines))
    (or_none (has_return line || has_backslash_blank line) (has_backslash_comment line)
    (or_none (has_return line) (has_backslash_blank line) q.return q.blank) q.comment)
    q.over)
    (none_otherwise (n + 1) (used_after used line) (state_after state line) (next ∷ lines) rest)

short_line : (used : ℕ) (line : List ℕ) → used ≤ 1023 → is_cut used line ≡ false →
    (nat_lt 1023 (used + length line + 1) ≡ false) × (used_after used line ≤ 1023)
short_line used line low h =
    let room : nat_lt used 1024 ≡ true = lt-ltb used 1024 (omega (arith, low)) in
    let fits : nat_lt 1023 (used + length line + 1) ≡ false = ap (λ (t : Bool). t && nat_lt 1023 (used + length line + 1)) (sym room) ∙ h in
    let less : used + length line + 1 ≤ 1023 = ltb-false 1023 (used + length line + 1) fits in (
      fits,
      elim (is_blank_line line) as (λ (t : Bool). cond t used (cond (goes_on line) (used + length line + 1) 0) ≤ 1023) [
        | true ↦ low
        | false ↦ elim (goes_on line) as (λ (t : Bool). cond t (used + length line + 1) 0 ≤ 1023) [ true ↦ less | false ↦ omega arith ]
      ],
    )

none_too_long : (n used : ℕ) (state : State) (lines : List (List ℕ)) → used ≤ 1023 → line_findings n used state lines ≡ [] → is_too_long used lines ≡ false
unfolding is_too_long
none_too_long n used state [] low h = refl
none_too_long n used state (line ∷ lines) low h =
    let (q, rest) = quiet_line n used state line lines h in
    let (fits, after) = short_line used line low q.cut in
    or_none (nat_lt 1023 (used + length line + 1)) (is_too_long (used_after used line) lines) fits
    (none_too_long (n + 1) (used_after used line) (state_after state line) lines after rest)

none_dropped : (n used : ℕ) (state : State) (lines : List (List ℕ)) → line_findings n used state lines ≡ [] → has_dropped_blank state lines ≡ false
unfolding has_dropped_blank
none_dropped n used state [] h = refl
none_dropped n used state (line ∷ lines) h =
    let (q, rest) = quiet_line n used state line lines h in
    or_none (drops_blank state line) (has_dropped_blank (state_after state line) lines) q.drops
    (none_dropped (n + 1) (used_after used line) (state_after state line) lines rest)

-- no finding in a file
pub record Silent (form : Form) (bytes : List ℕ) : Type 0 where
  pub lines : is_line_read_otherwise (physical_lines bytes) ≡ false
  pub short : is_too_long 0 (physical_lines bytes) ≡ false
  pub blanks : has_dropped_blank Between (physical_lines bytes) ≡ false
  pub rules : rule_findings form (text_lines (text_of 1 bytes)) ≡ []

pub silent : (form : Form) (bytes : List ℕ) → findings_of form bytes ≡ [] → Silent form bytes
unfolding findings_of
silent form bytes h =
    let (here, rules) = none_merged (line_findings 1 0 Between (physical_lines bytes)) (rule_findings form (text_lines (text_of 1 bytes))) h in
    record {
      lines = none_otherwise 1 0 Between (physical_lines bytes) here;
      short = none_too_long 1 0 Between (physical_lines bytes) (omega arith) here;
      blanks = none_dropped 1 0 Between (physical_lines bytes) here;
      rules = rules;
    }
