-- The blanks that 1.7.0 drops in the midst of a word in brackets.
use Rattle.std.specs.Prelude.{ℕ, ◌==◌, ◌&&◌, not, Bool, true, false, List, [], ◌∷◌, if◌then◌else◌}
use Rattle.pam_codes.specs.Tokens.{is_blank}
use Rattle.pam_conf.specs.Words.{State, Between, Plain, Bracket}
use Rattle.pam_released.specs.Lines.{before_hash, front_part, goes_on, is_space_or_tab}

-- the state of a reader of words after these bytes
unfoldable pub after : State → List ℕ → State
after s [] = s
after Between (b ∷ bs) = if is_blank b then after Between bs else if b == 91 then after (Bracket false) bs else after Plain bs
after Plain (b ∷ bs) = if is_blank b then after Between bs else after Plain bs
after (Bracket escaped) (b ∷ bs) = if b == 93 && not escaped then after Between bs else after (Bracket (b == 92)) bs

abbrev pub in_bracket : State → Bool
in_bracket Between = false
in_bracket Plain = false
in_bracket (Bracket escaped) = true

abbrev pub begins_in_blank : List ℕ → Bool
begins_in_blank [] = false
begins_in_blank (b ∷ bs) = is_space_or_tab b

-- what a physical line adds to its logical line
abbrev pub part : List ℕ → List ℕ
part line = if goes_on line then front_part line else before_hash line

-- the state at the next physical line
abbrev pub state_after : State → List ℕ → State
state_after state line = if goes_on line then after state (part line) else Between
