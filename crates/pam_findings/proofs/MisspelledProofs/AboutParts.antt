-- The pieces that findings are about are parts of their lines.
use Rattle.std.proofs.Common.{◌≡◌, ◌+◌, ℕ, List, Some}
use Rattle.std.proofs.lemmas.Option.{option_and_then_some}
use Rattle.pam_codes.specs.declared.error.ControlError.TheVariants.{OpenBracket}
use Rattle.pam_conf.specs.Remaining.{words_left}
use Rattle.pam_conf.specs.declared.error.FaultKind.{FaultKind}
use Rattle.pam_conf.specs.declared.error.FaultKind.TheVariants.{BadKind, Control}
use Rattle.pam_conf.specs.declared.rule.Form.{Form}
use Rattle.pam_findings.specs.misspelled.About.{kind_at, of_fault, piece_of, target_at, word_of}
use Rattle.pam_findings.specs.misspelled.Pairs.{wrong_piece}
use Rattle.pam_findings.specs.declared.misspelled.word.Wrong.{Wrong}
use Rattle.pam_findings.specs.declared.misspelled.word.Wrong.TheVariants.{Argument, Fault, NoModule, Path, Target}
use Rattle.pam_findings.proofs.MisspelledProofs.Opening.{open_part}
use Rattle.pam_findings.proofs.MisspelledProofs.Parts.{IsPart, control_part, word_part}

fault_part : (form : Form) (fault : FaultKind) (line : List ℕ) (piece : ℕ × List ℕ) → of_fault form fault line ≡ Some piece → IsPart line piece
fault_part form BadKind line piece h = word_part line (kind_at form) piece h
fault_part form (Control OpenBracket) line piece h = open_part line piece h
fault_part form (Control error) line piece h =
    option_and_then_some (wrong_piece error) (word_of line (kind_at form + 1)) piece h
    (λ control at wrong. control_part error line control piece (word_part line (kind_at form + 1) control at) wrong)
fault_part form fault line piece h = word_part line (target_at (words_left line)) piece h

-- THE PIECE that a finding is about is a part of its line
pub piece_part : (form : Form) (why : Wrong) (line : List ℕ) (piece : ℕ × List ℕ) → piece_of form why line ≡ Some piece → IsPart line piece
piece_part form (Fault fault) line piece h = fault_part form fault line piece h
piece_part form Target line piece h = word_part line (target_at (words_left line)) piece h
piece_part form NoModule line piece h = word_part line (kind_at form + 2) piece h
piece_part form Path line piece h = word_part line (kind_at form + 2) piece h
piece_part form (Argument position wrong) line piece h = word_part line (kind_at form + 3 + position) piece h
