-- Tests of the arguments of a module, as `[nullok]`, `[!sha512]`, `[remember=]` or `[deny<=5]`.
use Rattle.std.specs.Prelude.{ℕ, ◌+◌, ◌==◌, ◌||◌, Bool, true, false, not, List, []}
use Rattle.std.specs.Prelude.{◌∷◌, ◌++◌, codes, drop, nat_eq, position, take, unwrap_or, Option, Some, None}
use Rattle.std.specs.Prelude.{ℤ, pos, neg_ℤ, int_le, int_lt, option_and_then, if◌then◌else◌}
use Rattle.std.specs.List.{ends_with, list_any, prefix_len, starts_with}
use Rattle.std.specs.Option.{option_map, option_map_or}
use Rattle.std.specs.Str.{bytes_eq}
use Rattle.pam_codes.specs.Action.{decimal_value, is_jump_text as is_one_to_nine_digits}
use Rattle.pam_tables.specs.Options.{or_else, value_of}
use Rattle.pam_policy.specs.declared.text.test.Comparison.{Comparison}
use Rattle.pam_policy.specs.declared.text.test.Comparison.TheVariants.{Below, AtMost, Above, AtLeast}
use Rattle.pam_policy.specs.declared.text.test.Test.{Test}
use Rattle.pam_policy.specs.declared.text.test.Wanted.{Wanted}
use Rattle.pam_policy.specs.declared.text.test.Wanted.TheVariants as wanted

-- A TEST WITHOUT ITS LAYOUT IN MEMORY

-- an argument that is this text; one that begins with it; or a number, which compares so with this one
pub data WantedText : Type 0 where
  Argument : List ℕ → WantedText
  Beginning : List ℕ → WantedText
  Number : List ℕ → Comparison → ℤ → WantedText

-- with `!` it is inverted
pub record TestText : Type 0 where
  pub is_inverted : Bool
  pub wanted : WantedText

abbrev pub wanted_view : Wanted → WantedText
wanted_view (wanted.Argument text) = Argument text.now
wanted_view (wanted.Beginning text) = Beginning text.now
wanted_view (wanted.Number key comparison number) = Number key.now comparison number

abbrev pub test_view : Test → TestText
test_view test = record { is_inverted = test.is_inverted; wanted = wanted_view test.wanted }

-- READING

abbrev pub natural_of : List ℕ → Option ℕ
natural_of digits = if is_one_to_nine_digits digits then Some (decimal_value digits) else None

-- NUMBER: one to nine digits, with at most one `-` before them
unfoldable pub number_of : List ℕ → Option ℤ
number_of text =
    if starts_with nat_eq text (codes "-") then option_map (λ n. neg_ℤ (pos n)) (natural_of (drop 1 text)) else option_map pos (natural_of text)

-- how a text says that numbers are compared, and what is after it
unfoldable pub comparison_of : List ℕ → Option (Comparison × List ℕ)
comparison_of text =
    if starts_with nat_eq text (codes "<=") then Some (AtMost, drop 2 text)
    else if starts_with nat_eq text (codes ">=") then Some (AtLeast, drop 2 text)
    else if starts_with nat_eq text (codes "<") then Some (Below, drop 1 text)
    else if starts_with nat_eq text (codes ">") then Some (Above, drop 1 text)
    else None

-- a KEY has none of `<`, `>` and `=`
abbrev pub is_key_byte : ℕ → Bool
is_key_byte b = not (b == 60 || (b == 62 || b == 61))

abbrev pub compared : List ℕ → Comparison × List ℕ → Option WantedText
compared key said = option_map (λ number. Number key said.0 number) (number_of said.1)

abbrev pub key_and_number : List ℕ → List ℕ → Option WantedText
key_and_number [] text = None
key_and_number (b ∷ bs) text = option_and_then (compared (b ∷ bs)) (comparison_of text)

-- KEY, a comparison and NUMBER
unfoldable pub number_wanted : List ℕ → Option WantedText
number_wanted text = key_and_number (take (prefix_len is_key_byte text) text) (drop (prefix_len is_key_byte text) text)

-- what is wanted otherwise: an argument that is the text, or begins with it if that ends in `=`
abbrev pub text_wanted : List ℕ → WantedText
text_wanted text = if ends_with nat_eq text (codes "=") then Beginning text else Argument text

-- what is wanted by a text, which is not empty
unfoldable pub wanted_of : List ℕ → Option WantedText
wanted_of [] = None
wanted_of (b ∷ bs) = Some (unwrap_or (number_wanted (b ∷ bs)) (text_wanted (b ∷ bs)))

abbrev pub test_wanting : Bool → WantedText → TestText
test_wanting is_inverted wanted = record { is_inverted = is_inverted; wanted = wanted }

-- THE TEST of a text between brackets
unfoldable pub test_of : List ℕ → Option TestText
test_of text =
    if starts_with nat_eq text (codes "!") then option_map (test_wanting true) (wanted_of (drop 1 text))
    else option_map (test_wanting false) (wanted_of text)

-- MEANING

abbrev pub compares : Comparison → ℤ → ℤ → Bool
compares Below m n = int_lt m n
compares AtMost m n = int_le m n
compares Above m n = int_lt n m
compares AtLeast m n = int_le n m

-- a value is a number that compares so with this one
abbrev pub value_compares : Comparison → ℤ → List ℕ → Bool
value_compares comparison number value = option_map_or (λ n. compares comparison n number) (number_of value) false

-- the value of an argument with a key: what is after the key and `=`
abbrev pub key_value : List ℕ → List ℕ → Option (List ℕ)
key_value key argument = option_and_then (value_of (codes "=")) (value_of key argument)

-- the value of the last argument with a key
abbrev pub last_value : List ℕ → List (List ℕ) → Option (List ℕ)
last_value key [] = None
last_value key (argument ∷ arguments) = or_else (last_value key arguments) (key_value key argument)

-- whether arguments have what is wanted; of several values of a key the last counts
abbrev pub has_wanted : List (List ℕ) → WantedText → Bool
has_wanted arguments (Argument text) = list_any (λ argument. bytes_eq argument text) arguments
has_wanted arguments (Beginning text) = list_any (λ argument. starts_with nat_eq argument text) arguments
has_wanted arguments (Number key comparison number) =
    option_map_or (value_compares comparison number) (last_value key arguments) false

-- WHETHER A TEST HOLDS of the arguments of a rule
unfoldable pub holds : TestText → List (List ℕ) → Bool
holds test arguments = if test.is_inverted then not (has_wanted arguments test.wanted) else has_wanted arguments test.wanted

-- the key of an argument: its text up to its first `=`, or else the text
unfoldable pub argument_key : List ℕ → List ℕ
argument_key argument = option_map_or (λ i. take (i + 1) argument) (position (λ b. b == 61) argument) argument

-- THE KEY of what is wanted
abbrev pub key_of : WantedText → List ℕ
key_of (Argument text) = argument_key text
key_of (Beginning text) = argument_key text
key_of (Number key comparison number) = key ++ codes "="
