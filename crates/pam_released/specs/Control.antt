-- The inside of a control in brackets, as released Linux-PAM reads it: `_pam_parse_control`.
use Rattle.std.specs.Prelude.{ℕ, zero, suc, get_or, ◌+◌, ◌%◌, ◌==◌, ◌&&◌, ◌||◌, nat_le, nat_lt, Bool, true, false, List, [], ◌∷◌, length, map, drop, find}
use Rattle.std.specs.Prelude.{codes, if◌then◌else◌, Option, Some, None, unwrap_or}
use Rattle.std.specs.List.{prefix_len, take_while}
use Rattle.std.specs.Option.{option_map, option_map_or}
use Rattle.std.specs.Char.{is_ascii_digit}
use Rattle.pam_codes.specs.Action.{decimal_value}
use Rattle.pam_codes.specs.Code.{all_codes, code_names}
use Rattle.pam_codes.specs.Control.{Pairs}
use Rattle.pam_codes.specs.declared.action.Action.{Action}
use Rattle.pam_codes.specs.declared.action.Action.TheVariants.{Ignore, Ok as Accept, Done, Bad, Die, Reset, Jump}
use Rattle.pam_codes.specs.declared.subject.Subject.{Subject}
use Rattle.pam_codes.specs.declared.subject.Subject.TheVariants.{Named, Incomplete, Default}
use Rattle.pam_released.specs.declared.release.Release.{Release}
use Rattle.pam_released.specs.declared.release.Release.TheVariants.{Older, Newer}

-- `isspace`
abbrev pub is_space : ℕ → Bool
is_space b = b == 32 || (nat_lt 8 b && nat_lt b 14)

abbrev pub after_spaces : List ℕ → List ℕ
after_spaces [] = []
after_spaces (b ∷ bs) = if is_space b then after_spaces bs else b ∷ bs

-- the text begins with the name
abbrev pub begins : List ℕ → List ℕ → Bool
begins [] text = true
begins (n ∷ name) [] = false
begins (n ∷ name) (b ∷ bs) = n == b && begins name bs

abbrev pub name_of : ℕ → List ℕ
name_of code = get_or code_names code []

abbrev pub then_some : {A B : Type 0} → Option A → (A → Option B) → Option B
then_some None f = None
then_some (Some x) f = f x

-- the first code whose name the text begins with, else `incomplete` or `default`; and the text after the name
unfoldable pub subject_at : List ℕ → Option (Subject × List ℕ)
subject_at text =
    option_map_or (λ code. Some (Named code, drop (length (name_of code)) text)) (find (λ code. begins (name_of code) text) all_codes)
    (if begins (codes "incomplete") text then Some (Incomplete, drop 10 text)
    else if begins (codes "default") text then Some (Default, drop 7 text)
    else None)

unfoldable pub equals_at : List ℕ → Option (List ℕ)
equals_at [] = None
equals_at (b ∷ bs) = if b == 61 then Some bs else None

-- THE NUMBER OF A JUMP, by its value. None is a fault

-- a jump over this many items, or over 999,999,999 where it is more: no list has as many
abbrev pub jump_over : ℕ → Action
jump_over items = Jump (if nat_lt 999999999 items then 999999999 else items)

-- 1.5.2: by its last 32 bits, as an `int`. From -1 down to -5 it is the number by which 1.5.2 knows an action; one below fails, as `bad` does
abbrev pub action_of_bits : ℕ → Option Action
action_of_bits bits =
    if bits == 0 then None
    else if nat_le bits 2147483647 then Some (jump_over bits)
    else if bits == 4294967295 then Some Accept
    else if bits == 4294967294 then Some Done
    else if bits == 4294967292 then Some Die
    else if bits == 4294967291 then Some Reset
    else Some Bad

-- 1.7.0: none that is past the largest `int`
abbrev pub action_of_int : ℕ → Option Action
action_of_int number = if number == 0 || nat_lt 2147483647 number then None else Some (jump_over number)

abbrev pub action_of_number : Release → ℕ → Option Action
action_of_number Older number = action_of_bits (number % 4294967296)
action_of_number Newer number = action_of_int number

-- what the digits at the start of a text tell, and the text after them
abbrev pub jump_at : Release → List ℕ → Option (Action × List ℕ)
jump_at release text =
    option_map (λ action. (action, drop (prefix_len is_ascii_digit text) text)) (action_of_number release (decimal_value (take_while is_ascii_digit text)))

-- the first action whose name the text begins with, else that of a number; and the text after it
unfoldable pub action_at : Release → List ℕ → Option (Action × List ℕ)
action_at release text =
    if begins (codes "ignore") text then Some (Ignore, drop 6 text)
    else if begins (codes "ok") text then Some (Accept, drop 2 text)
    else if begins (codes "done") text then Some (Done, drop 4 text)
    else if begins (codes "bad") text then Some (Bad, drop 3 text)
    else if begins (codes "die") text then Some (Die, drop 3 text)
    else if begins (codes "reset") text then Some (Reset, drop 5 text)
    else jump_at release text

-- the pairs of a text after its first blanks: `next` reads what is after the first pair. None is a fault
abbrev pub pairs_from : Release → (List ℕ → Option Pairs) → List ℕ → Option Pairs
pairs_from release next [] = Some []
pairs_from release next (b ∷ bs) =
    then_some (subject_at (b ∷ bs)) (λ s. then_some (equals_at (after_spaces s.1)) (λ r. then_some (action_at release (after_spaces r))
    (λ a. option_map (λ ps. (s.0, a.0) ∷ ps) (next a.1))))

-- the pairs of a text that has fewer bytes than this
unfoldable pub pairs_at : Release → ℕ → List ℕ → Option Pairs
pairs_at release zero text = None
pairs_at release (suc n) text = pairs_from release (λ rest. pairs_at release n rest) (after_spaces text)

-- the action of a code after these pairs, each of which writes it: a name always, `default` where nothing was written
abbrev pub written : ℕ → Option Action → Pairs → Option Action
written code before [] = before
written code before ((Named n, a) ∷ ps) = written code (if n == code then Some a else before) ps
written code before ((Incomplete, a) ∷ ps) = written code before ps
written code before ((Default, a) ∷ ps) = written code (Some (unwrap_or before a)) ps

-- bad for each code
abbrev pub all_bad : List Action
all_bad = map (λ code. Bad) all_codes

-- the 31 actions: bad where nothing was written, and all where the text has a fault
unfoldable pub released_actions : Release → List ℕ → List Action
released_actions release text =
    option_map_or (λ ps. map (λ code. unwrap_or (written code None ps) Bad) all_codes) (pairs_at release (length text + 1) text) all_bad
