-- The answer of `check`.
use Rattle.std.proofs.Common.{◌≡◌, List, ℕ, Ok, Result, subst, sym}
use Rattle.pam_findings.specs.accepted.Lines.{Accepted, accepted_lines}
use Rattle.pam_findings.specs.declared.accepted.error.AcceptError.{AcceptError}
use Rattle.pam_conf.specs.Files.{Folder}
use Rattle.pam_facts.specs.Reading.{known_rows}
use Rattle.pam_facts.specs.Rows.{Row}
use Rattle.pam_facts.specs.declared.error.FactsError.{FactsError}
use Rattle.pam_words.specs.declared.wanted.CheckFiles.{CheckFiles}
use Rattle.pam_words.specs.declared.wanted.LevelName.{LevelName}
use Rattle.pam_report.specs.Check.{IsCheck, IsCheckOf, IsChecked}
use Rattle.pam_report.specs.Inputs.{accept_given, facts_given}
use Rattle.pam_report.specs.Reply.{Check, CheckValue}
use Rattle.pam_report.specs.declared.inputs.Inputs.{Inputs}

module _ (services : List (List ℕ)) (fail_on : LevelName) (named : CheckFiles) (files : Folder) (inputs : Inputs) where
  -- the answer by facts and lines that are read
  pub check-of : (facts : List Row) (lines : List Accepted) (value : CheckValue) → known_rows (facts_given inputs) ≡ Ok facts
      → accepted_lines (accept_given inputs) ≡ Ok lines → IsCheckOf services fail_on named files inputs facts lines value
      → IsCheck services fail_on named files inputs (Ok (Check value))
  check-of facts lines value k a h =
      subst (λ (rows : Result (List Row) FactsError).
      IsChecked services fail_on named files inputs rows (accepted_lines (accept_given inputs)) (Ok (Check value))) (sym k)
      (subst (λ (read : Result (List Accepted) AcceptError). IsChecked services fail_on named files inputs (Ok facts) read (Ok (Check value))) (sym a) h)
