-- The control of a rule (pam.conf(5), "control": the keywords, and "[value1=action1 value2=action2 ...]").
use Rattle.std.specs.Prelude.{◌≡◌, ℕ, ◌+◌, ◌==◌, ◌&&◌, nat_lt, Bool, false, not, if◌then◌else◌, codes}
use Rattle.std.specs.Prelude.{List, [], ◌∷◌, length, take, map, find, All, Option, Some, None, unwrap_or, Result, Ok, Err}
use Rattle.std.specs.Option.{option_map, option_map_or}
use Rattle.std.specs.Str.{bytes_eq}
use Rattle.pam_codes.specs.declared.action.Action.{Action}
use Rattle.pam_codes.specs.declared.action.Action.TheVariants.{Ignore, Ok as Accept, Done, Bad, Die}
use Rattle.pam_codes.specs.declared.subject.Subject.{Subject}
use Rattle.pam_codes.specs.declared.subject.Subject.TheVariants.{Named, Incomplete, Default}
use Rattle.pam_codes.specs.declared.error.ControlError.{ControlError}
use Rattle.pam_codes.specs.declared.error.ControlError.TheVariants.{BadControl, BadAction, OpenBracket}
use Rattle.pam_codes.specs.Action.{IsAction, action_named}
use Rattle.pam_codes.specs.Code.{all_codes, ignored, new_authtok_reqd, same_name, success}
use Rattle.pam_codes.specs.declared.code.TheConstants.{CODES}
use Rattle.pam_codes.specs.Subject.{subject_of}
use Rattle.pam_codes.specs.Tokens.{tokens_of}

infixl 10 ◌>>=◌
abbrev pub ◌>>=◌ : {A B : Type 0} → Result A ControlError → (A → Result B ControlError) → Result B ControlError
(Ok x) >>= f = f x
(Err e) >>= f = Err e

-- an action for each of the 31 codes
pub record IsControl (actions : List Action) : Type 0 where
  pub one_each : length actions ≡ CODES
  pub each_action : All IsAction actions

-- PAIRS

-- the pairs `value=action`, in the order of the text
abbrev pub Pairs : Type 0
Pairs = List (Subject × Action)

-- the action of the last pair that names the code
abbrev pub last_named : ℕ → Pairs → Option Action
last_named code [] = None
last_named code ((Named n, a) ∷ ps) = if n == code then Some (unwrap_or (last_named code ps) a) else last_named code ps
last_named code ((Incomplete, a) ∷ ps) = last_named code ps
last_named code ((Default, a) ∷ ps) = last_named code ps

-- the action of the first `default`
abbrev pub first_default : Pairs → Option Action
first_default [] = None
first_default ((Named n, a) ∷ ps) = first_default ps
first_default ((Incomplete, a) ∷ ps) = first_default ps
first_default ((Default, a) ∷ ps) = Some a

-- the action of a code: that of the last pair that names it, else that of the first `default`, else bad
abbrev pub action_of : Pairs → ℕ → Action
action_of ps code = unwrap_or (last_named code ps) (unwrap_or (first_default ps) Bad)

-- the 31 actions, in order of the codes
unfoldable pub actions_of : Pairs → List Action
actions_of ps = map (action_of ps) all_codes

-- KEYWORDS

-- each keyword, and its equivalent pairs
unfoldable pub keywords : List (List ℕ × Pairs)
keywords =
    (codes "required", (Named success, Accept) ∷ (Named new_authtok_reqd, Accept) ∷ (Named ignored, Ignore) ∷ (Default, Bad) ∷ [])
    ∷ (codes "requisite", (Named success, Accept) ∷ (Named new_authtok_reqd, Accept) ∷ (Named ignored, Ignore) ∷ (Default, Die) ∷ [])
    ∷ (codes "sufficient", (Named success, Done) ∷ (Named new_authtok_reqd, Done) ∷ (Default, Ignore) ∷ [])
    ∷ (codes "optional", (Named success, Accept) ∷ (Named new_authtok_reqd, Accept) ∷ (Default, Ignore) ∷ [])
    ∷ []

-- the pairs of a word, if it is a keyword
unfoldable pub keyword_pairs : List ℕ → Option Pairs
keyword_pairs word = option_map (λ k. k.1) (find (λ k. same_name k.0 word) keywords)

-- the actions of a keyword
abbrev pub keyword_actions : List ℕ → Result (List Action) ControlError
keyword_actions word = option_map_or (λ ps. Ok (actions_of ps)) (keyword_pairs word) (Err BadControl)

-- BRACKETS

-- the index of the first `]` with no backslash directly before it; `escaped`: a backslash is directly before the bytes
unfoldable pub closing_at : Bool → List ℕ → Option ℕ
closing_at escaped [] = None
closing_at escaped (b ∷ bs) = if b == 93 && not escaped then Some 0 else option_map (λ n. n + 1) (closing_at (b == 92) bs)

-- the token `=`
abbrev pub equals_sign : List ℕ → Result (Unit {0}) ControlError
equals_sign token = if bytes_eq token (codes "=") then Ok tt else Err BadControl

-- the pairs with one more at the start
abbrev pub with_front : Subject × Action → Result Pairs ControlError → Result Pairs ControlError
with_front p read = read >>= λ ps. Ok (p ∷ ps)

-- the pairs of tokens, three tokens each
unfoldable pub pairs_of : List (List ℕ) → Result Pairs ControlError
pairs_of [] = Ok []
pairs_of (a ∷ []) = do
  subject ← subject_of a
  Err BadControl
pairs_of (a ∷ b ∷ []) = do
  subject ← subject_of a
  equals ← equals_sign b
  Err BadAction
pairs_of (a ∷ b ∷ c ∷ rest) = do
  subject ← subject_of a
  equals ← equals_sign b
  action ← action_named c
  with_front (subject, action) (pairs_of rest)

-- the actions of the tokens between brackets
abbrev pub token_actions : List (List ℕ) → Result (List Action) ControlError
token_actions tokens = do
  pairs ← pairs_of tokens
  Ok (actions_of pairs)

-- the actions of the text after `[`, with its `]` at index `n`: nothing may follow the `]`
abbrev pub closed_actions : ℕ → List ℕ → Result (List Action) ControlError
closed_actions n bytes = if nat_lt (n + 1) (length bytes) then Err BadControl else token_actions (tokens_of (take n bytes))

-- the actions of the text after `[`
unfoldable pub bracket_actions : List ℕ → Result (List Action) ControlError
bracket_actions bytes = option_map_or (λ n. closed_actions n bytes) (closing_at false bytes) (Err OpenBracket)

-- the 31 actions of the text of a control, or its fault
unfoldable pub control_of : List ℕ → Result (List Action) ControlError
control_of [] = keyword_actions []
control_of (b ∷ bs) = if b == 91 then bracket_actions bs else keyword_actions (b ∷ bs)

-- what a check answers: nothing but the fault, if there is one
abbrev pub fault_of : Result (List Action) ControlError → Result (Unit {0}) ControlError
fault_of read = read >>= λ actions. Ok tt
