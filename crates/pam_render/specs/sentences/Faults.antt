-- What `check` says of a fault of a file or a walk: what is wrong, and how to mend it.
use Rattle.std.specs.Prelude.{ℕ, List, [], ◌++◌, ◌==◌, codes, if◌then◌else◌, Option, Some, None}
use Rattle.std.specs.Option.{option_map_or}
use Rattle.pam_codes.specs.declared.error.ControlError.{ControlError}
use Rattle.pam_codes.specs.declared.error.ControlError.TheVariants.{BadControl, BadValue, BadAction, ZeroJump, OpenBracket}
use Rattle.pam_conf.specs.declared.error.FaultKind.{FaultKind}
use Rattle.pam_conf.specs.declared.error.FaultKind.TheVariants as faults
use Rattle.pam_findings.specs.misspelled.Misspelled.{MisspelledText}
use Rattle.pam_render.specs.sentences.Shown.{hidden_text, quoted, shown_name}

-- WHERE THE WRONG WORD IS NOT KNOWN

unfoldable pub control_sentence : ControlError → List ℕ
control_sentence BadControl =
    codes "the control is not required, requisite, sufficient, optional, include, substack or pairs CODE=ACTION in one pair of brackets"
control_sentence BadValue = codes "the word before = is no return code; write one as success, or default"
control_sentence BadAction = codes "the word after = is no action; write ignore, bad, die, ok, done, reset or a number of at most 9 digits"
control_sentence ZeroJump = codes "a jump over 0 items; write ignore, or the number of items to jump over"
control_sentence OpenBracket = codes "a bracket is not closed; write ] after the last word in it"

unfoldable pub fault_sentence : FaultKind → List ℕ
fault_sentence faults.NulByte = codes "the file has a NUL byte; remove it"
fault_sentence faults.MissingField = codes "the line ends too early; a rule has a kind, a control and the path of a module"
fault_sentence faults.BadKind = codes "the kind is not auth, account, password or session"
fault_sentence (faults.Control error) = control_sentence error
fault_sentence faults.MissingTarget = codes "no file is named; write its name after include, substack or @include"
fault_sentence faults.BadTarget = codes "the file that is named is not in this folder, so it is not read here; write a name without folder"
fault_sentence faults.Cycle = codes "the file is being read already, so it would be read without end; remove this line, or the one that leads back"
fault_sentence faults.TooDeep = codes "more than 16 files would be open at once; include fewer files in one another"
fault_sentence faults.TooManyModules = codes "the stack has more than 256 modules; remove some"
fault_sentence faults.IncludeInSingleFile = codes "pam.conf cannot include files; write the rules here, or use a folder"
fault_sentence faults.NoService = codes "there is no file of this name; mend the name, or make the file"
fault_sentence faults.FileTooLong = codes "the file is longer than 1,048,576 bytes; shorten it"
fault_sentence faults.Memory = codes "an allocation failed"
fault_sentence faults.TooManyFollowed = codes "more than 256 includes and substacks are followed; include fewer files"

-- for a fault at no line: neither the service nor `other` has rules
abbrev pub no_rules_sentence : List ℕ
no_rules_sentence = codes "neither the service nor other has rules, so every login is refused; write rules for one of them"

-- a missing file that is named at a line, or a service without rules
abbrev pub plain_sentence : ℕ → FaultKind → List ℕ
plain_sentence line faults.NoService = if line == 0 then no_rules_sentence else fault_sentence faults.NoService
plain_sentence line fault = fault_sentence fault

-- WITH THE WRONG WORD

-- the text before and after the word in its sentence, and what to write if no right word is near
pub record Naming : Type 0 where
  pub before : List ℕ
  pub after : List ℕ
  pub mending : List ℕ

unfoldable pub naming_of_control : ControlError → Option Naming
naming_of_control BadControl = Some record {
  before = [];
  after = codes " is no control";
  mending = codes "write required, requisite, sufficient, optional, include, substack or pairs CODE=ACTION in one pair of brackets";
}
naming_of_control BadValue = Some record { before = []; after = codes " is no return code"; mending = codes "write one as success, or default" }
naming_of_control BadAction = Some record {
  before = [];
  after = codes " is no action";
  mending = codes "write ignore, bad, die, ok, done, reset or a number of at most 9 digits";
}
naming_of_control error = None

-- the faults whose sentences name a word
unfoldable pub naming_of : FaultKind → Option Naming
naming_of faults.BadKind = Some record { before = []; after = codes " is no kind"; mending = codes "write auth, account, password or session" }
naming_of (faults.Control error) = naming_of_control error
naming_of faults.NoService = Some record { before = codes "there is no file "; after = []; mending = codes "mend the name, or make the file" }
naming_of fault = None

-- the nearest right word, or else how to mend the word
abbrev pub mending_text : Option (List ℕ) → List ℕ → List ℕ
mending_text None mending = codes "; " ++ mending
mending_text (Some right) mending = codes "; did you mean " ++ quoted right ++ codes "?"

-- what is said after the word, and which hidden character it has
abbrev pub after_text : List ℕ → List ℕ → List ℕ
after_text after word = after ++ hidden_text word

abbrev pub named_text : MisspelledText → Naming → List ℕ
named_text misspelled naming =
    naming.before ++ quoted misspelled.word ++ after_text naming.after misspelled.word ++ mending_text misspelled.nearest naming.mending

-- a file that is not there may be a link that leads nowhere
unfoldable pub dead_naming : Naming
dead_naming = record { before = []; after = codes " is a link that leads nowhere"; mending = codes "make the file that it names, or mend the link" }

abbrev pub naming_for : MisspelledText → Naming → Naming
naming_for misspelled naming = if misspelled.leads_nowhere then dead_naming else naming

-- a wrong argument comes after the name of its module
abbrev pub naming_text : MisspelledText → Naming → List ℕ
naming_text misspelled naming = shown_name misspelled.of ++ named_text misspelled (naming_for misspelled naming)

-- THE SENTENCE of a fault at a line, with the word that is wrong if it is known
abbrev pub fault_text : ℕ → FaultKind → Option MisspelledText → List ℕ
fault_text line fault None = plain_sentence line fault
fault_text line fault (Some misspelled) = option_map_or (naming_text misspelled) (naming_of fault) (plain_sentence line fault)
