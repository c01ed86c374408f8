-- The lines of a check, by equal lists.
use Rattle.std.proofs.Common.{◌≡◌, ◌∙◌, ℕ, List, ◌++◌, Option, ap, ap₂, length, map, refl, sym}
use Rattle.std.proofs.lemmas.List.Folds.{flat_map-map}
use Rattle.pam_findings.specs.declared.host.problem.Place.{Place}
use Rattle.pam_findings.specs.declared.host.report.Finding.{Finding}
use Rattle.pam_findings.specs.misspelled.Misspelled.{MisspelledText}
use Rattle.pam_report.specs.Reply.{CheckValue}
use Rattle.pam_report.specs.Unused.{UnusedText, unused_view}
use Rattle.pam_report.specs.declared.report.unused.UnusedLine.{UnusedLine}
use Rattle.pam_findings.specs.declared.tables.problem.TableFinding.{TableFinding}
use Rattle.pam_render.specs.parts.Check.{Names, counts_of}
use Rattle.pam_render.specs.parts.Findings.{Last, Line, findings_lines, last_of, named_lines, rest_lines, table_lines, unused_lines, unused_one}
use Rattle.pam_render.specs.parts.inner.Lines.{written}
use Rattle.pam_render.specs.declared.parts.check.Counts.{Counts}

pub written-are : (line : Line → List ℕ) (accept facts : List ℕ) (unused : List UnusedLine)
    → written line accept facts unused ≡ unused_lines line accept facts (map unused_view unused)
written-are line accept facts unused = sym (flat_map-map (unused_one line accept facts) unused_view unused)

-- if this is the text of a line
module _ (line : Line → List ℕ) (value : CheckValue) where
  -- the last line, by equal numbers
  pub last-is : (services : ℕ) (found : List (Place × Finding)) (tables : List TableFinding) (unused : List UnusedText) (counts : Counts)
      → services ≡ length value.services → counts ≡ counts_of found tables unused → found ≡ value.found → tables ≡ value.tables
      → unused ≡ value.unused → line (Last services counts) ≡ last_of line value
  last-is services found tables unused counts e c f t u =
      let same : counts ≡ counts_of value.found value.tables value.unused =
      c ∙ ap (λ (l : List (Place × Finding)). counts_of l tables unused) f ∙ ap (λ (l : List TableFinding). counts_of value.found l unused) t
      ∙ ap (λ (l : List UnusedText). counts_of value.found value.tables l) u in
      ap₂ {A = ℕ} {B = Counts} {C = List ℕ} (λ n m. line (Last n m)) e same

  -- what comes after the findings, by equal lists
  pub rest-are : (unused : List UnusedLine) → map unused_view unused ≡ value.unused → (tables : List TableFinding) (accept facts : List ℕ)
      (lines : List UnusedLine) → tables ≡ value.tables → accept ≡ value.accept → facts ≡ value.facts → lines ≡ unused
      → (table_lines line value.table_paths tables ++ written line accept facts lines) ++ last_of line value ≡ rest_lines line value
  rest-are unused same tables accept facts lines t a b u = rw (t, a, b, u, written-are line value.accept value.facts unused, same) refl

  -- the lines, by equal lists
  pub lines-are : (names : Names) (found : List (Place × Finding)) (words : List (Option MisspelledText)) → found ≡ value.found
      → words ≡ value.misspelled → findings_lines line names words found ++ rest_lines line value ≡ named_lines line names value
  lines-are names found words f w = rw (f, w) refl
