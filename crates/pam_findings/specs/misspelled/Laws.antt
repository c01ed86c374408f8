-- Laws of the definitions.
use Rattle.std.specs.Prelude.{◌≡◌, ℕ, Bool, true, List, ◌++◌, codes, map, Some}
use Rattle.std.specs.Char.{to_ascii_lowercase}
use Rattle.pam_codes.specs.declared.error.ControlError.TheVariants.{BadAction}
use Rattle.pam_spelling.specs.Laws.{IsNearer}
use Rattle.pam_conf.specs.Files.{Folder}
use Rattle.pam_findings.specs.misspelled.Actions.{digits_of, nearest_action, number_words, other_actions}
use Rattle.pam_findings.specs.misspelled.Certain.{is_certain, others}
use Rattle.pam_findings.specs.misspelled.Findings.{word_at}
use Rattle.pam_findings.specs.misspelled.Lines.{bytes_of}
use Rattle.pam_findings.specs.misspelled.Misspelled.{MisspelledText, Right}
use Rattle.pam_findings.specs.misspelled.RightWords.{nearest_control}
use Rattle.pam_findings.specs.misspelled.Written.{IsWritten, written_at}
use Rattle.pam_findings.specs.declared.host.problem.Place.{Place}
use Rattle.pam_findings.specs.declared.host.report.Finding.{Finding}
use Rattle.pam_findings.specs.declared.misspelled.spot.Spot.{Spot}
use Rattle.pam_findings.specs.declared.misspelled.right_words.TheConstants.{MAX_NAMES}

-- a word for a number, in whatever case, gets its digits
abbrev pub NumbersGetDigits : Type 0
NumbersGetDigits = (word digits : List ℕ) → digits_of (map to_ascii_lowercase word) ≡ Some digits → nearest_control BadAction word ≡ Some digits

-- a word that gets `done` has fewer typing errors against it than against each other action and each word for a number
abbrev pub DoneIsNearer : Type 0
DoneIsNearer = (word : List ℕ) → nearest_action word ≡ Some (codes "done") → IsNearer (other_actions ++ number_words) word (codes "done")

-- the word of a finding that has a spot is written there, with as many bytes of it as the spot has
abbrev pub WordsAreWritten : Type 0
WordsAreWritten =
    (files : Folder) (right : Right) (outside : List Bool) (entry : Place × Finding) (m : MisspelledText) (spot : Spot) →
    word_at files right outside entry ≡ Some m → m.spot ≡ Some spot →
    (word : List ℕ) × (written_at files outside entry ≡ Some word) × IsWritten (bytes_of files entry.0.file) word spot

-- a misspelled name is compared with those of 1,000 files or modules
abbrev pub MostNames : Type 0
MostNames = MAX_NAMES ≡ 1000

-- a nearest word that is certain has fewer typing errors than each other right word
abbrev pub CertainIsNearer : Type 0
CertainIsNearer = (words : List (List ℕ)) (word found : List ℕ) → is_certain words word (Some found) ≡ true → IsNearer (others words found) word found
