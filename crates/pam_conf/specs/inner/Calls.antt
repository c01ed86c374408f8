-- For private contracts and proofs alone: the words of a call of a module: pam.conf(5), "control module-path module-arguments".
use Rattle.std.specs.Prelude.{Bool, false, List, [], ◌∷◌, ℕ, map, Result, Ok, Err}
use Rattle.std.specs.Result.{is_ok}
use Rattle.pam_codes.specs.Control.{control_of}
use Rattle.pam_codes.specs.declared.action.Action.{Action}
use Rattle.pam_codes.specs.declared.error.ControlError.{ControlError}
use Rattle.pam_conf.specs.Words.{text_of_word}

-- they begin with a control that has no fault
abbrev pub is_call : List (List ℕ) → Bool
is_call [] = false
is_call (control ∷ words) = is_ok (control_of control)

abbrev pub actions_or_none : Result (List Action) ControlError → List Action
actions_or_none (Ok actions) = actions
actions_or_none (Err e) = []

abbrev pub path_of : List (List ℕ) → List ℕ
path_of [] = []
path_of (path ∷ arguments) = text_of_word path

abbrev pub arguments_of : List (List ℕ) → List (List ℕ)
arguments_of [] = []
arguments_of (path ∷ arguments) = map text_of_word arguments

-- the parts of a call
abbrev pub control_in : List (List ℕ) → List Action
control_in [] = []
control_in (control ∷ words) = actions_or_none (control_of control)

abbrev pub path_in : List (List ℕ) → List ℕ
path_in [] = []
path_in (control ∷ words) = path_of words

abbrev pub arguments_in : List (List ℕ) → List (List ℕ)
arguments_in [] = []
arguments_in (control ∷ words) = arguments_of words
