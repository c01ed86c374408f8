-- Findings that are appended line after line.
use Rattle.std.proofs.Common.{◌≡◌, ◌∙◌, ◌++◌, ℕ, Bool, true, List, [], ◌∷◌, ap, sym, refl, append-nil, append_assoc}
use Rattle.pam_text.specs.Text.{text_lines, text_of}
use Rattle.pam_tables.specs.Lines.{lines_from}
use Rattle.pam_tables.specs.Options.{Options}
use Rattle.pam_released.specs.tables.Access.{access_findings, access_tests, last_line}
use Rattle.pam_released.specs.tables.Findings.{found_at, found_in}
use Rattle.pam_released.specs.tables.Times.{time_findings, time_tests, unfinished_line}
use Rattle.pam_released.specs.declared.tables.difference.TableDifference.{TableDifference}
use Rattle.pam_released.specs.declared.tables.finding.TableFinding.{TableFinding}

pub next_line : (tests : ℕ → List ℕ → List (Bool × TableDifference)) (line : ℕ × List ℕ) (lines : List (ℕ × List ℕ)) →
    found_in tests (line ∷ lines) ≡ found_at line.0 (tests line.0 line.1) ++ found_in tests lines
unfolding found_in
next_line tests line lines = refl

pub no_line : (tests : ℕ → List ℕ → List (Bool × TableDifference)) → found_in tests [] ≡ []
unfolding found_in
no_line tests = refl

pub line_step : (tests : ℕ → List ℕ → List (Bool × TableDifference)) (n : ℕ) (text : List ℕ) (lines rest : List (ℕ × List ℕ))
    (found pushed whole : List TableFinding) → lines ≡ (n, text) ∷ rest → pushed ≡ found ++ found_at n (tests n text) →
    found ++ found_in tests lines ≡ whole → pushed ++ found_in tests rest ≡ whole
line_step tests n text lines rest found pushed whole split push h =
    ap (λ (r : List TableFinding). r ++ found_in tests rest) push
    ∙ append_assoc found (found_at n (tests n text)) (found_in tests rest)
    ∙ ap (λ (r : List TableFinding). found ++ r) (sym (next_line tests (n, text) rest))
    ∙ ap (λ (r : List (ℕ × List ℕ)). found ++ found_in tests r) (sym split) ∙ h

pub line_end : (tests : ℕ → List ℕ → List (Bool × TableDifference)) (lines : List (ℕ × List ℕ)) (found whole : List TableFinding) → lines ≡ [] →
    found ++ found_in tests lines ≡ whole → found ≡ whole
line_end tests lines found whole is h =
    sym (append-nil found) ∙ ap (λ (r : List TableFinding). found ++ r) (sym (no_line tests))
    ∙ ap (λ (r : List (ℕ × List ℕ)). found ++ found_in tests r) (sym is) ∙ h

pub times_are : (bytes : List ℕ) (n : ℕ) → n ≡ unfinished_line bytes →
    found_in (time_tests n) (text_lines (text_of 1 bytes)) ≡ time_findings bytes
unfolding time_findings
times_are bytes n is = ap (λ (k : ℕ). found_in (time_tests k) (text_lines (text_of 1 bytes))) is

pub access_are : (options : Options) (bytes fields tokens : List ℕ) (last : ℕ) → fields ≡ options.field_separators → tokens ≡ options.list_separators →
    last ≡ last_line bytes → found_in (access_tests (record { field_separators = fields; list_separators = tokens; group_names = true }) last)
    (lines_from 1 bytes) ≡ access_findings options bytes
unfolding access_findings
access_are options bytes fields tokens last f t l = rw (f, t, l) refl
