-- The actions of a control (pam.conf(5), the actions between brackets).
use Rattle.std.specs.Prelude.{ℕ, ◌+◌, ◌-◌, ◌*◌, ◌<◌, ◌≤◌, Bool, true, false, not, List, length, fold, codes, decimal, ◌==◌, ◌&&◌, nat_lt}
use Rattle.std.specs.Prelude.{if◌then◌else◌, Result, Ok, Err}
use Rattle.std.specs.List.{list_all}
use Rattle.std.specs.Char.{is_ascii_digit}
use Rattle.pam_codes.specs.declared.action.Action.{Action}
use Rattle.pam_codes.specs.declared.action.Action.TheVariants.{Ignore, Ok as Accept, Done, Bad, Die, Reset, Jump}
use Rattle.pam_codes.specs.declared.error.ControlError.{ControlError}
use Rattle.pam_codes.specs.declared.error.ControlError.TheVariants.{BadAction, ZeroJump}
use Rattle.pam_codes.specs.Code.{same_name}

-- an action of a control: a jump skips 1 to 999,999,999 items
abbrev pub IsAction : Action → Type 0
IsAction (Jump items) = (0 < items) × (items ≤ 999999999)
IsAction _ = Unit {0}

abbrev pub same_action : Action → Action → Bool
same_action Ignore Ignore = true
same_action Accept Accept = true
same_action Done Done = true
same_action Bad Bad = true
same_action Die Die = true
same_action Reset Reset = true
same_action (Jump m) (Jump n) = m == n
same_action _ _ = false

-- READING

-- the value of decimal digits
abbrev pub decimal_value : List ℕ → ℕ
decimal_value digits = fold (λ n d. 10 * n + (d - 48)) 0 digits

-- one to nine digits
abbrev pub is_jump_text : List ℕ → Bool
is_jump_text word = nat_lt 0 (length word) && nat_lt (length word) 10 && list_all is_ascii_digit word

-- the action of a word, or its fault
unfoldable pub action_named : List ℕ → Result Action ControlError
action_named word =
    if same_name (codes "ignore") word then Ok Ignore
    else if same_name (codes "bad") word then Ok Bad
    else if same_name (codes "die") word then Ok Die
    else if same_name (codes "ok") word then Ok Accept
    else if same_name (codes "done") word then Ok Done
    else if same_name (codes "reset") word then Ok Reset
    else if not (is_jump_text word) then Err BadAction
    else if decimal_value word == 0 then Err ZeroJump
    else Ok (Jump (decimal_value word))

-- WRITING

-- the word of an action; the number of a jump, without leading zeros
abbrev pub action_text : Action → List ℕ
action_text Ignore = codes "ignore"
action_text Accept = codes "ok"
action_text Done = codes "done"
action_text Bad = codes "bad"
action_text Die = codes "die"
action_text Reset = codes "reset"
action_text (Jump items) = decimal items
