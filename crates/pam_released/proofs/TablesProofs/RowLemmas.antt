-- Each finding of a table is at a line at which its row shows.
use Rattle.std.proofs.Common.{◌≡◌, ◌↔◌, ◌⊎◌, inl, inr, ◌++◌, ℕ, Bool, true, false, List, [], ◌∷◌, ap, sym, subst}
use Rattle.pam_text.specs.Text.{text_lines, text_of}
use Rattle.pam_tables.specs.Lines.{lines_from}
use Rattle.pam_tables.specs.Options.{Options}
use Rattle.pam_released.specs.FindingLaws.{Member}
use Rattle.pam_released.proofs.RowLemmas.{in_back, in_either, in_front}
use Rattle.pam_released.specs.tables.Access.{access_findings, access_tests, last_line}
use Rattle.pam_released.specs.tables.Findings.{found_at, found_if, found_in}
use Rattle.pam_released.specs.tables.Laws.{IsAtLine}
use Rattle.pam_released.specs.tables.Times.{time_findings, time_tests, unfinished_line}
use Rattle.pam_released.specs.declared.tables.difference.TableDifference.{TableDifference}
use Rattle.pam_released.specs.declared.tables.finding.TableFinding.{TableFinding}
use Rattle.pam_released.proofs.TablesProofs.FindingSteps.{next_line, no_line}

abbrev pub located : ℕ → TableDifference → TableFinding
located line difference = record { line = line; difference = difference }

-- AT ONE LINE

pub from_at : (f : TableFinding) (n : ℕ) (ts : List (Bool × TableDifference)) → Member f (found_at n ts) →
    (n ≡ f.line) × Member (true, f.difference) ts
from_at f n [] m = absurd m
from_at f n ((t, d) ∷ ts) m = by t (λ k. from_at f n ts k) m
  where
    by : (u : Bool) → (Member f (found_at n ts) → (n ≡ f.line) × Member (true, f.difference) ts) →
        Member f (found_if n u d ++ found_at n ts) → (n ≡ f.line) × Member (true, f.difference) ((u, d) ∷ ts)
    by true more (inl e) = (ap (λ (g : TableFinding). g.line) e, inl (ap (λ (g : TableFinding). (true, g.difference)) e))
    by true more (inr k) = let two = more k in (two.0, inr two.1)
    by false more k = let two = more k in (two.0, inr two.1)

to_at : (f : TableFinding) (n : ℕ) (ts : List (Bool × TableDifference)) → n ≡ f.line → Member (true, f.difference) ts → Member f (found_at n ts)
to_at f n [] e m = absurd m
to_at f n ((t, d) ∷ ts) e (inl s) =
    subst (λ (p : Bool × TableDifference). Member f (found_if n p.0 p.1 ++ found_at n ts)) (sym s)
    (inl (ap (λ (k : ℕ). located k f.difference) e))
to_at f n ((t, d) ∷ ts) e (inr m) = in_back f (found_if n t d) (found_at n ts) (to_at f n ts e m)

-- AT ALL LINES

pub from_lines : (tests : ℕ → List ℕ → List (Bool × TableDifference)) (lines : List (ℕ × List ℕ)) (f : TableFinding) →
    Member f (found_in tests lines) → IsAtLine tests lines f
from_lines tests [] f m = absurd (subst (Member f) (no_line tests) m)
from_lines tests (line ∷ lines) f m =
    parts (λ k. from_lines tests lines f k)
    (in_either f (found_at line.0 (tests line.0 line.1)) (found_in tests lines) (subst (Member f) (next_line tests line lines) m))
  where
    parts : (Member f (found_in tests lines) → IsAtLine tests lines f) →
        Member f (found_at line.0 (tests line.0 line.1)) ⊎ Member f (found_in tests lines) → IsAtLine tests (line ∷ lines) f
    parts more (inl k) =
        let two = from_at f line.0 (tests line.0 line.1) k in
        record {
          text = line.1;
          line = inl (ap (λ (n : ℕ). (n, line.1)) two.0);
          shows = subst (λ (n : ℕ). Member (true, f.difference) (tests n line.1)) two.0 two.1;
        }
    parts more (inr k) = let r = more k in record { text = r.text; line = inr r.line; shows = r.shows }

to_lines : (tests : ℕ → List ℕ → List (Bool × TableDifference)) (lines : List (ℕ × List ℕ)) (f : TableFinding) (text : List ℕ) →
    Member (f.line, text) lines → Member (true, f.difference) (tests f.line text) → Member f (found_in tests lines)
to_lines tests [] f text l m = absurd l
to_lines tests (line ∷ lines) f text (inl e) m =
    subst (Member f) (sym (next_line tests line lines)) (in_front f (found_at line.0 (tests line.0 line.1)) (found_in tests lines)
    (to_at f line.0 (tests line.0 line.1) (ap (λ (l : ℕ × List ℕ). l.0) e)
    (subst (λ (l : ℕ × List ℕ). Member (true, f.difference) (tests l.0 l.1)) (sym e) m)))
to_lines tests (line ∷ lines) f text (inr l) m =
    subst (Member f) (sym (next_line tests line lines))
    (in_back f (found_at line.0 (tests line.0 line.1)) (found_in tests lines) (to_lines tests lines f text l m))

rows_of : (tests : ℕ → List ℕ → List (Bool × TableDifference)) (lines : List (ℕ × List ℕ)) (f : TableFinding) →
    Member f (found_in tests lines) ↔ IsAtLine tests lines f
rows_of tests lines f = (λ m. from_lines tests lines f m, λ r. to_lines tests lines f r.text r.line r.shows)

pub access_rows : (options : Options) (bytes : List ℕ) (f : TableFinding) →
    Member f (access_findings options bytes) ↔ IsAtLine (access_tests options (last_line bytes)) (lines_from 1 bytes) f
unfolding access_findings
access_rows options bytes f = rows_of (access_tests options (last_line bytes)) (lines_from 1 bytes) f

pub time_rows : (bytes : List ℕ) (f : TableFinding) →
    Member f (time_findings bytes) ↔ IsAtLine (time_tests (unfinished_line bytes)) (text_lines (text_of 1 bytes)) f
unfolding time_findings
time_rows bytes f = rows_of (time_tests (unfinished_line bytes)) (text_lines (text_of 1 bytes)) f
