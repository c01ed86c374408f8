-- The word that is wrong between the brackets of a control: pam.conf(5), "[value1=action1 value2=action2 ...]".
use Rattle.std.specs.Prelude.{ℕ, zero, suc, ◌+◌, Bool, true, false, not, List, [], ◌∷◌, find, if◌then◌else◌, is_ok, take, Option, None, Some, Result, Err}
use Rattle.std.specs.Option.{option_and_then, option_map, option_map_or}
use Rattle.pam_codes.specs.Action.{action_named}
use Rattle.pam_codes.specs.Control.{closing_at}
use Rattle.pam_codes.specs.Subject.{subject_of}
use Rattle.pam_codes.specs.Tokens.{tokens_of}
use Rattle.pam_codes.specs.declared.action.Action.{Action}
use Rattle.pam_codes.specs.declared.error.ControlError.{ControlError}
use Rattle.pam_codes.specs.declared.error.ControlError.TheVariants.{BadControl, BadValue, BadAction}
use Rattle.pam_findings.specs.misspelled.Pieces.{piece_at}

-- an action, also a jump over no items, whose fault is another one
abbrev pub is_no_bad_action : Result Action ControlError → Bool
is_no_bad_action (Err BadAction) = false
is_no_bad_action action = true

-- a word that may stand after `=`
abbrev pub is_action : List ℕ → Bool
is_action word = is_no_bad_action (action_named word)

-- a word that is right where an error comes from
abbrev pub is_right : ControlError → List ℕ → Bool
is_right BadValue word = is_ok (subject_of word)
is_right BadAction word = is_action word
is_right error word = true

-- a pair has three tokens: the value, the `=` and the action. Those before the one that an error comes from
abbrev pub place_in_pair : ControlError → ℕ
place_in_pair BadAction = 2
place_in_pair error = 0

-- every third token, after skipping this many
unfoldable pub thirds : ℕ → List (List ℕ) → List (List ℕ)
thirds passed [] = []
thirds zero (token ∷ tokens) = token ∷ thirds 2 tokens
thirds (suc passed) (token ∷ tokens) = thirds passed tokens

abbrev pub wrong_token : ControlError → List (List ℕ) → Option (List ℕ)
wrong_token error tokens = find (λ token. not (is_right error token)) (thirds (place_in_pair error) tokens)

-- the text between the brackets of a control as it is written
abbrev pub between : List ℕ → List ℕ
between [] = []
between (b ∷ bs) = option_map_or (λ n. take n bs) (closing_at false bs) []

-- THE WORD THAT IS WRONG in a control as it is written: a control that is none at all, or the first wrong value or action
abbrev pub wrong_in : ControlError → List ℕ → Option (List ℕ)
wrong_in BadControl control = Some control
wrong_in error control = wrong_token error (tokens_of (between control))

-- the tokens before the first wrong one, if this many are passed over before every third one is looked at
unfoldable pub wrong_number : ControlError → ℕ → List (List ℕ) → Option ℕ
wrong_number error passed [] = None
wrong_number error zero (token ∷ tokens) = if is_right error token then option_map (λ n. n + 1) (wrong_number error 2 tokens) else Some 0
wrong_number error (suc passed) (token ∷ tokens) = option_map (λ n. n + 1) (wrong_number error passed tokens)

-- that token of a text, beside its start
abbrev pub wrong_from : ControlError → ℕ → List ℕ → Option (ℕ × List ℕ)
wrong_from error passed text = option_and_then (λ number. piece_at tokens_of number text) (wrong_number error passed (tokens_of text))

abbrev pub in_brackets : ControlError → ℕ × List ℕ → Option (ℕ × List ℕ)
in_brackets error control =
    option_map (λ token. (control.0 + 1 + token.0, token.1)) (wrong_from error (place_in_pair error) (between control.1))

-- THE PIECE THAT IS WRONG in a control, which is itself a piece of a line
abbrev pub wrong_piece : ControlError → ℕ × List ℕ → Option (ℕ × List ℕ)
wrong_piece BadControl control = Some control
wrong_piece error control = in_brackets error control
