-- Lines that are read in part.
use Rattle.std.proofs.Common.{◌≡◌, ◌∙◌, ◌≤◌, ◌<◌, ◌+◌, ℕ, zero, suc, List, [], ◌∷◌, Bool, true, false, None, Some, arith, eqb, refl, sym, subst}
use Rattle.std.proofs.lemmas.Bool.{eq-eqb, eqb-false, eqb-true}
use Rattle.pam_released.proofs.LineNumbers.{LinesRise, text_rises}
use Rattle.pam_text.proofs.TextSteps.{unequal}
use Rattle.pam_text.specs.Text.{FileByte, text_lines, text_of}
use Rattle.pam_findings.specs.misspelled.Lines.{Lines, line_at}
use Rattle.pam_findings.specs.misspelled.inner.Reading.{AreRead, Rise, if_last, last_line}

-- THE NUMBERS RISE

as_rise : (least : ℕ) (lines : Lines) → LinesRise least lines → Rise least lines
as_rise least [] r = tt
as_rise least (line ∷ lines) r = (r.0, as_rise (line.0 + 1) lines r.1)

pub text_rise : (bytes : List ℕ) → Rise 1 (text_lines (text_of 1 bytes))
text_rise bytes = as_rise 1 (text_lines (text_of 1 bytes)) (text_rises bytes)

-- THE LINE WITH A NUMBER

pub line_at-first : (number : ℕ) (bytes : List ℕ) (lines : Lines) → line_at ((number, bytes) ∷ lines) number ≡ Some bytes
line_at-first number bytes lines = rw (eq-eqb number number refl) refl

pub line_at-later : (first number : ℕ) (bytes : List ℕ) (lines : Lines) → (first ≡ number → ⊥)
    → line_at ((first, bytes) ∷ lines) number ≡ line_at lines number
line_at-later first number bytes lines other = rw (unequal first number other) refl

-- no line has a number below those of all
pub line_at-below : (least number : ℕ) (lines : Lines) → Rise least lines → number < least → line_at lines number ≡ None
line_at-below least number [] r below = refl
line_at-below least number (line ∷ lines) r below =
    line_at-later line.0 number line.1 lines (λ e. omega (arith, r.0, below, e))
    ∙ line_at-below (line.0 + 1) number lines r.1 (omega (arith, r.0, below))

-- READING

is_some : (number : ℕ) (line : List ℕ) → 0 < number → last_line number line ≡ Some line
is_some zero line h = absurd (omega (arith, h))
is_some (suc number) line h = refl

if_same : (number : ℕ) (line : List ℕ) → if_last number number line ≡ last_line number line
if_same number line = rw (eq-eqb number number refl) refl

if_other : (number last : ℕ) (line : List ℕ) → (number ≡ last → ⊥) → if_last number last line ≡ None
if_other number last line other = rw (unequal number last other) refl

-- before the first line
pub none_read : (all : Lines) (line : List ℕ) → Rise 1 all → AreRead all 0 line all
none_read all line r = record { last = line_at-below 1 0 all r (omega arith); ahead = λ later h. refl; rising = r }

-- one more line
pub one_more : (all left : Lines) (number next : ℕ) (line bytes : List ℕ) → AreRead all number line ((next, bytes) ∷ left) → AreRead all next bytes left
one_more all left number next line bytes read = record {
  last = read.ahead next (omega (arith, read.rising.0)) ∙ line_at-first next bytes left ∙ sym (is_some next bytes (omega (arith, read.rising.0)));
  ahead = λ later h. read.ahead later (omega (arith, read.rising.0, h)) ∙ line_at-later next later bytes left (λ e. omega (arith, e, h));
  rising = read.rising.1;
}

-- the line that is sought was read last
pub at_last : (all left : Lines) (number last : ℕ) (line : List ℕ) → AreRead all last line left → number ≡ last → line_at all number ≡ if_last number last line
at_last all left number last line read e = rw e (read.last ∙ sym (if_same last line))

-- the line that is sought is the next one, or comes before it and so is not there
pub at_next : (all left : Lines) (number last next : ℕ) (line bytes : List ℕ) → AreRead all last line ((next, bytes) ∷ left) → last < number → number ≤ next
    → line_at all number ≡ if_last number next bytes
at_next all left number last next line bytes read after upto =
    elim (eqb number next) as (λ (t : Bool). eqb number next ≡ t → line_at all number ≡ if_last number next bytes) [
      | true ↦ λ e. at_last all left number next bytes (one_more all left last next line bytes read) (eqb-true number next e)
      | false ↦ λ e.
          read.ahead number after ∙ line_at-later next number bytes left (λ f. eqb-false number next e (sym f))
          ∙ line_at-below (next + 1) number left read.rising.1 (omega (arith, upto)) ∙ sym (if_other number next bytes (eqb-false number next e))
    ] refl

-- no line is left
pub at_end : (all : Lines) (number last : ℕ) (line : List ℕ) → AreRead all last line [] → last < number → line_at all number ≡ if_last number last line
at_end all number last line read after = read.ahead number after ∙ sym (if_other number last line (λ e. omega (arith, e, after)))

-- a file that is opened
pub opened : (bytes line : List ℕ) (text : List FileByte) → text ≡ text_of 1 bytes → AreRead (text_lines (text_of 1 bytes)) 0 line (text_lines text)
opened bytes line text e =
    subst (λ (t : List FileByte). AreRead (text_lines (text_of 1 bytes)) 0 line (text_lines t)) (sym e)
    (none_read (text_lines (text_of 1 bytes)) line (text_rise bytes))
