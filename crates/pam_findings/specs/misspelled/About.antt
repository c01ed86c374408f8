-- The piece of a line that a finding is about: a word as it is written, or a name or an action between brackets.
use Rattle.std.specs.Prelude.{ℕ, ◌+◌, List, [], ◌∷◌, codes, if◌then◌else◌, Option}
use Rattle.std.specs.Option.{option_and_then}
use Rattle.pam_codes.specs.Code.{same_name}
use Rattle.pam_codes.specs.declared.error.ControlError.TheVariants.{OpenBracket}
use Rattle.pam_conf.specs.Remaining.{words_left}
use Rattle.pam_conf.specs.Words.{text_of_word}
use Rattle.pam_conf.specs.declared.error.FaultKind.{FaultKind}
use Rattle.pam_conf.specs.declared.error.FaultKind.TheVariants.{BadKind, Control}
use Rattle.pam_conf.specs.declared.rule.Form.{Form}
use Rattle.pam_conf.specs.declared.rule.Form.TheVariants.{Dir, Single}
use Rattle.pam_findings.specs.misspelled.Open.{open_piece}
use Rattle.pam_findings.specs.misspelled.Pairs.{wrong_piece}
use Rattle.pam_findings.specs.misspelled.Pieces.{piece_at}
use Rattle.pam_findings.specs.declared.misspelled.word.Wrong.{Wrong}
use Rattle.pam_findings.specs.declared.misspelled.word.Wrong.TheVariants.{Argument, Fault, NoModule, Path, Target}

-- the words before the kind: in pam.conf the service
abbrev pub kind_at : Form → ℕ
kind_at Dir = 0
kind_at Single = 1

-- those before the target: `@include`, or a kind and `include` or `substack`
abbrev pub target_at : List (List ℕ) → ℕ
target_at [] = 0
target_at (word ∷ words) = if same_name (codes "@include") (text_of_word word) then 1 else 2

abbrev pub word_of : List ℕ → ℕ → Option (ℕ × List ℕ)
word_of line number = piece_at words_left number line

abbrev pub target_of : List ℕ → Option (ℕ × List ℕ)
target_of line = word_of line (target_at (words_left line))

abbrev pub of_fault : Form → FaultKind → List ℕ → Option (ℕ × List ℕ)
of_fault form BadKind line = word_of line (kind_at form)
of_fault form (Control OpenBracket) line = open_piece line
of_fault form (Control error) line = option_and_then (wrong_piece error) (word_of line (kind_at form + 1))
of_fault form fault line = target_of line

-- THE PIECE of a line that a finding is about, beside its start: a kind with its dash, a target with its folder, and a word with its brackets
abbrev pub piece_of : Form → Wrong → List ℕ → Option (ℕ × List ℕ)
piece_of form (Fault fault) line = of_fault form fault line
piece_of form Target line = target_of line
piece_of form NoModule line = word_of line (kind_at form + 2)
piece_of form Path line = word_of line (kind_at form + 2)
piece_of form (Argument position wrong) line = word_of line (kind_at form + 3 + position)
