-- What may stand after `=` in a control in brackets: an action, or the number of items to jump over, in digits.
use Rattle.std.specs.Prelude.{ℕ, List, [], ◌∷◌, ◌++◌, codes, find, map, Option, None, Some}
use Rattle.std.specs.Option.{option_and_then, option_map, option_map_or}
use Rattle.std.specs.Str.{bytes_eq}
use Rattle.pam_spelling.specs.Nearest.{nearest}

-- the actions that are words, but `done`, which ends a stack with success
abbrev pub other_actions : List (List ℕ)
other_actions = codes "ignore" ∷ codes "bad" ∷ codes "die" ∷ codes "ok" ∷ codes "reset" ∷ []

-- the English words for the numbers from 1 to 20, each with its digits
unfoldable pub numbers : List (List ℕ × List ℕ)
numbers =
    (codes "one", codes "1") ∷ (codes "two", codes "2") ∷ (codes "three", codes "3") ∷ (codes "four", codes "4")
    ∷ (codes "five", codes "5") ∷ (codes "six", codes "6") ∷ (codes "seven", codes "7") ∷ (codes "eight", codes "8")
    ∷ (codes "nine", codes "9") ∷ (codes "ten", codes "10") ∷ (codes "eleven", codes "11") ∷ (codes "twelve", codes "12")
    ∷ (codes "thirteen", codes "13") ∷ (codes "fourteen", codes "14") ∷ (codes "fifteen", codes "15") ∷ (codes "sixteen", codes "16")
    ∷ (codes "seventeen", codes "17") ∷ (codes "eighteen", codes "18") ∷ (codes "nineteen", codes "19") ∷ (codes "twenty", codes "20") ∷ []

abbrev pub number_words : List (List ℕ)
number_words = map (λ number. number.0) numbers

-- the digits of a word for a number
abbrev pub digits_of : List ℕ → Option (List ℕ)
digits_of word = option_map (λ number. number.1) (find (λ number. bytes_eq number.0 word) numbers)

-- what a word after `=` is compared with. Of words that are as near the first is the nearest, so `done` is the nearest to no word that is
-- as near to one for a number: nobody is led from a jump to an early success
abbrev pub after_sign : List (List ℕ)
after_sign = other_actions ++ number_words ++ codes "done" ∷ []

-- no number is guessed
abbrev pub unless_number : List ℕ → Option (List ℕ)
unless_number word = option_map_or (λ digits. None) (digits_of word) (Some word)

-- THE RIGHT WORD for one that is wrong after `=`, in small letters: the digits of a word for a number; else the nearest action, unless a
-- word for a number is nearer
abbrev pub nearest_action : List ℕ → Option (List ℕ)
nearest_action word = option_map_or Some (digits_of word) (option_and_then unless_number (nearest after_sign word))
