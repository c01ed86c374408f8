-- The path of the module that a line names, and its arguments: pam.conf(5), "service type control module-path module-arguments".
use Rattle.std.specs.Prelude.{ℕ, List, [], ◌∷◌, Option, None, Result, Ok, Err, drop}
use Rattle.std.specs.Option.{option_map}
use Rattle.pam_conf.specs.FaultWord.{first_word, from_kind}
use Rattle.pam_conf.specs.Words.{text_of_word, words_or_fault}
use Rattle.pam_conf.specs.declared.error.FaultKind.{FaultKind}
use Rattle.pam_conf.specs.declared.rule.Form.{Form}

abbrev pub after_first : List (List ℕ) → List (List ℕ)
after_first [] = []
after_first (word ∷ words) = words

-- the path comes after the kind and the control
abbrev pub path_text : Form → List (List ℕ) → Option (List ℕ)
path_text form words = option_map text_of_word (first_word (after_first (after_first (from_kind form words))))

-- a line in which a bracket stays open has no words
abbrev pub unless_open : Form → Result (List (List ℕ)) FaultKind → Option (List ℕ)
unless_open form (Ok words) = path_text form words
unless_open form (Err unclosed) = None

abbrev pub after_path : Form → List (List ℕ) → List (List ℕ)
after_path form words = after_first (after_first (after_first (from_kind form words)))

-- the arguments come after the path
abbrev pub argument_text : Form → ℕ → List (List ℕ) → Option (List ℕ)
argument_text form position words = option_map text_of_word (first_word (drop position (after_path form words)))

abbrev pub argument_unless_open : Form → ℕ → Result (List (List ℕ)) FaultKind → Option (List ℕ)
argument_unless_open form position (Ok words) = argument_text form position words
argument_unless_open form position (Err unclosed) = None

-- THE PATH that a line names
abbrev pub path_in : Form → List ℕ → Option (List ℕ)
path_in form line = unless_open form (words_or_fault line)

-- THE ARGUMENT at a position, from 0, of the rule in a line
abbrev pub argument_in : Form → ℕ → List ℕ → Option (List ℕ)
argument_in form position line = argument_unless_open form position (words_or_fault line)
