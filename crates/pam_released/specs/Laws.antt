-- Laws of the definitions.
use Rattle.std.specs.Prelude.{◌≡◌, ◌==◌, ℕ, false, List, [], map, Some, Ok}
use Rattle.std.specs.Char.{to_ascii_lowercase}
use Rattle.std.specs.List.{list_any}
use Rattle.std.specs.Option.{option_map}
use Rattle.pam_codes.specs.Control.{token_actions}
use Rattle.pam_codes.specs.Tokens.{tokens_of}
use Rattle.pam_codes.specs.declared.action.Action.{Action}
use Rattle.pam_conf.specs.Words.{text_of_word, words_of}
use Rattle.pam_conf.specs.Lines.{rules_of}
use Rattle.pam_conf.specs.Rule.{RuleText}
use Rattle.pam_conf.specs.declared.rule.Form.{Form}
use Rattle.pam_released.specs.Buffer.{buffered}
use Rattle.pam_released.specs.Control.{released_actions}
use Rattle.pam_released.specs.Findings.{findings_of}
use Rattle.pam_released.specs.Lines.{before_hash, continued, filled, lines_152, lines_170, manual_lines_of, not_empty, physical_lines, pieces}
use Rattle.pam_released.specs.Rules.{reading_of, rules_152, rules_170}
use Rattle.pam_released.specs.Words.{released_words, words_152, words_170}
use Rattle.pam_released.specs.declared.release.Release.{Release}

-- the lines of the manual pages, by what is between line feeds
abbrev pub ManualLines : Type 0
ManualLines = (bytes : List ℕ) → manual_lines_of bytes ≡ continued (map before_hash (pieces bytes))

-- WITHOUT A FINDING

-- 1.5.2 has the lines of the manual pages, but for those of blanks alone
abbrev pub Lines152 : Type 0
Lines152 = (form : Form) (bytes : List ℕ) → findings_of form bytes ≡ [] →
    buffered [] [] false bytes ≡ Some (filled (manual_lines_of bytes))

-- its buffer does not show
abbrev pub BufferUnseen : Type 0
BufferUnseen = (form : Form) (bytes : List ℕ) → findings_of form bytes ≡ [] → buffered [] [] false bytes ≡ lines_152 false (physical_lines bytes)

-- the words of the lines of 1.7.0, cut as the manual pages say, are those of the manual pages
abbrev pub Lines170 : Type 0
Lines170 = (form : Form) (bytes : List ℕ) → findings_of form bytes ≡ [] →
    option_map (λ lines. map words_of (not_empty lines)) (lines_170 false (physical_lines bytes)) ≡ Some (map words_of (filled (manual_lines_of bytes)))

-- THE WORDS OF A FILE, of which each bracket is closed: no line is E8

-- by the manual pages
abbrev pub HasWords : List ℕ → List (List (List ℕ)) → Type 0
HasWords bytes words = map words_of (filled (manual_lines_of bytes)) ≡ map (λ ws. Some ws) words

-- without a finding, the texts of the words of each line by either release are those of the manual pages
abbrev pub FileWords152 : Type 0
FileWords152 = (form : Form) (bytes : List ℕ) (words : List (List (List ℕ))) → findings_of form bytes ≡ [] → HasWords bytes words →
    words_152 bytes ≡ Some (map (map text_of_word) words)

abbrev pub FileWords170 : Type 0
FileWords170 = (form : Form) (bytes : List ℕ) (words : List (List (List ℕ))) → findings_of form bytes ≡ [] → HasWords bytes words →
    words_170 bytes ≡ Some (map (map text_of_word) words)

-- WORDS AND CONTROLS

-- a line without a carriage return whose brackets are closed has the same words as the manual pages say, whether a line feed ends it or not
abbrev pub WordsAlike : Type 0
WordsAlike = (feed line : List ℕ) (words : List (List ℕ)) → list_any (λ b. b == 13) line ≡ false → words_of line ≡ Some words →
    released_words feed line ≡ map text_of_word words

-- without a capital, the inside of a control in brackets that has no fault has the same 31 actions
abbrev pub ControlsAlike : Type 0
ControlsAlike = (release : Release) (inside : List ℕ) (actions : List Action) → map to_ascii_lowercase inside ≡ inside →
    token_actions (tokens_of inside) ≡ Ok actions →
    released_actions release inside ≡ actions

-- THE RULES OF A FILE

-- if the file has no fault, both releases read its rules
abbrev pub SameRules : Form → List ℕ → Type 0
SameRules form bytes = (rules : List RuleText) → rules_of form bytes ≡ Ok rules →
    (rules_152 form bytes ≡ Some (map reading_of rules)) × (rules_170 form bytes ≡ Some (map reading_of rules))

-- they do where there is no finding
abbrev pub SilenceIsProof : Type 0
SilenceIsProof = (form : Form) (bytes : List ℕ) → findings_of form bytes ≡ [] → SameRules form bytes
