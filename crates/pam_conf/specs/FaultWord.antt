-- The word that is wrong in a line with a fault: pam.conf(5), "service type control module-path module-arguments".
use Rattle.std.specs.Prelude.{ℕ, List, [], ◌∷◌, codes, ◌==◌, if◌then◌else◌, Option, Some, None, Result, Ok, Err}
use Rattle.std.specs.Option.{option_map}
use Rattle.pam_codes.specs.Code.{same_name}
use Rattle.pam_codes.specs.declared.error.ControlError.{ControlError}
use Rattle.pam_codes.specs.declared.error.ControlError.TheVariants.{BadControl}
use Rattle.pam_conf.specs.Rule.{without_folder_of}
use Rattle.pam_conf.specs.Words.{text_of_word, words_or_fault}
use Rattle.pam_conf.specs.declared.error.FaultKind.{FaultKind}
use Rattle.pam_conf.specs.declared.error.FaultKind.TheVariants.{BadKind, Control, BadTarget, Cycle, TooDeep, NoService, TooManyFollowed}
use Rattle.pam_conf.specs.declared.rule.Form.{Form}
use Rattle.pam_conf.specs.declared.rule.Form.TheVariants.{Dir, Single}

-- the words from the kind on: in pam.conf the service comes before it
abbrev pub from_kind : Form → List (List ℕ) → List (List ℕ)
from_kind Dir words = words
from_kind Single [] = []
from_kind Single (service ∷ words) = words

abbrev pub first_word : List (List ℕ) → Option (List ℕ)
first_word [] = None
first_word (word ∷ words) = Some word

abbrev pub second_word : List (List ℕ) → Option (List ℕ)
second_word [] = None
second_word (word ∷ words) = first_word words

-- the text of the kind, without its dash
abbrev pub undashed : List ℕ → List ℕ
undashed [] = []
undashed (b ∷ bs) = if b == 45 then bs else b ∷ bs

abbrev pub kind_text : List (List ℕ) → Option (List ℕ)
kind_text words = option_map (λ word. undashed (text_of_word word)) (first_word words)

-- the target follows `@include`, or the kind and `include` or `substack`
abbrev pub target_word : List (List ℕ) → Option (List ℕ)
target_word [] = None
target_word (word ∷ words) = if same_name (codes "@include") (text_of_word word) then first_word words else second_word words

-- its name in the folder
abbrev pub target_text : List (List ℕ) → Option (List ℕ)
target_text words = option_map (λ word. without_folder_of (text_of_word word)) (target_word words)

-- a control that is none, as it is written
abbrev pub control_text : ControlError → List (List ℕ) → Option (List ℕ)
control_text BadControl words = second_word words
control_text error words = None

-- of the words of a line: the kind, the control, or the target
unfoldable pub faulty_word : Form → FaultKind → List (List ℕ) → Option (List ℕ)
faulty_word form BadKind words = kind_text (from_kind form words)
faulty_word form (Control error) words = control_text error (from_kind form words)
faulty_word form BadTarget words = target_text words
faulty_word form Cycle words = target_text words
faulty_word form TooDeep words = target_text words
faulty_word form NoService words = target_text words
faulty_word form TooManyFollowed words = target_text words
faulty_word form fault words = None

-- a line in which a bracket stays open has no words
abbrev pub unless_open : Form → FaultKind → Result (List (List ℕ)) FaultKind → Option (List ℕ)
unless_open form fault (Ok words) = faulty_word form fault words
unless_open form fault (Err unclosed) = None

-- THE WORD AT A FAULT of a line
abbrev pub word_at_fault : Form → FaultKind → List ℕ → Option (List ℕ)
word_at_fault form fault line = unless_open form fault (words_or_fault line)
