-- Events: `NAME[TEST]..=CODES`, a module of a name, with tests of its arguments, and the codes by which the event happens.
use Rattle.std.specs.Prelude.{ℕ, ◌-◌, ◌==◌, ◌&&◌, ◌||◌, Bool, true, false, not, List, [], ◌∷◌, codes, drop, length, map, nat_eq, option_and_then, take}
use Rattle.std.specs.Prelude.{if◌then◌else◌, Option, Some, None, Result, Ok, Err}
use Rattle.std.specs.List.{ends_with, list_any, onto_first, prefix_len}
use Rattle.std.specs.Option.{option_map, option_map_or}
use Rattle.std.specs.Str.{bytes_eq}
use Rattle.pam_facts.specs.Paths.{module_name}
use Rattle.pam_facts.specs.known.Answers.{name_of_path}
use Rattle.pam_tables.specs.Lines.{has_bytes}
use Rattle.pam_policy.specs.declared.text.codes.Codes.{Codes}
use Rattle.pam_policy.specs.declared.text.codes.Codes.TheVariants.{Given}
use Rattle.pam_policy.specs.declared.text.error.PolicyFault.{PolicyFault}
use Rattle.pam_policy.specs.declared.text.error.PolicyFault.TheVariants.{BadEvent, NoAnswers}
use Rattle.pam_policy.specs.declared.text.event.Event.{Event}
use Rattle.pam_policy.specs.text.Codes.{codes_in}
use Rattle.pam_policy.specs.text.Error.{◌>>=◌}
use Rattle.pam_policy.specs.text.Tests.{TestText, test_of, test_view}

-- AN EVENT WITHOUT ITS LAYOUT IN MEMORY

pub record EventText : Type 0 where
  pub name : List ℕ
  pub tests : List TestText
  pub codes : Codes

abbrev pub event_view : Event → EventText
event_view event = record { name = event.name.now; tests = map test_view event.tests.items; codes = event.codes }

-- READING

-- the words that join events and lists of them
abbrev pub keywords : List (List ℕ)
keywords = codes "or" ∷ codes "and" ∷ codes "with" ∷ codes "without" ∷ codes "before" ∷ []

-- a NAME has none of `[`, `]` and `=`, is not empty, and is no keyword
abbrev pub is_name_byte : ℕ → Bool
is_name_byte b = not (b == 91 || (b == 93 || b == 61))

abbrev pub is_keyword : List ℕ → Bool
is_keyword word = list_any (λ keyword. bytes_eq keyword word) keywords

abbrev pub is_name : List ℕ → Bool
is_name text = has_bytes text && not (is_keyword text)

-- the texts between brackets with which a text begins, and what is after them; None if a bracket stays open
unfoldable pub brackets : Bool → List ℕ → Option (List (List ℕ) × List ℕ)
brackets true [] = None
brackets true (b ∷ bs) =
    if b == 93 then option_map (λ p. ([] ∷ p.0, p.1)) (brackets false bs) else option_map (λ p. (onto_first b p.0, p.1)) (brackets true bs)
brackets false [] = Some ([], [])
brackets false (b ∷ bs) = if b == 91 then brackets true bs else Some ([], b ∷ bs)

-- the tests of texts, if each is one
unfoldable pub tests_of : List (List ℕ) → Option (List TestText)
tests_of [] = Some []
tests_of (text ∷ texts) = option_and_then (λ test. option_map (λ tests. test ∷ tests) (tests_of texts)) (test_of text)

-- the tests with which a text begins, and what is after them
unfoldable pub tests_before : List ℕ → Option (List TestText × List ℕ)
tests_before text = option_and_then (λ p. option_map (λ tests. (tests, p.1)) (tests_of p.0)) (brackets false text)

-- `=CODES`, or nothing: the codes of a bare name, which have to be given in some places
unfoldable pub codes_or_bare : Option Codes → List ℕ → Result Codes PolicyFault
codes_or_bare (Some bare) [] = Ok bare
codes_or_bare None [] = Err NoAnswers
codes_or_bare bare (b ∷ bs) = if b == 61 then (codes_in bs >>= λ codes. Ok (Given codes)) else Err BadEvent

abbrev pub or_bad : {A : Type 0} → Option A → Result A PolicyFault
or_bad (Some x) = Ok x
or_bad None = Err BadEvent

abbrev pub named : List ℕ → Option (List ℕ)
named name = if is_name name then Some name else None

-- THE EVENT of a word
unfoldable pub event_of : Option Codes → List ℕ → Result EventText PolicyFault
event_of bare word = do
  name ← or_bad (named (take (prefix_len is_name_byte word) word))
  tests ← or_bad (tests_before (drop (prefix_len is_name_byte word) word))
  codes ← codes_or_bare bare tests.1
  Ok record { name = name; tests = tests.0; codes = codes }

-- MEANING

abbrev pub without_so : List ℕ → List ℕ
without_so name = if ends_with nat_eq name (codes ".so") then take (length name - 3) name else name

-- WHETHER AN EVENT SPEAKS of the module at a path. A name with a slash is the whole path. Any other is the name of a module, with or
-- without `.so`: of one of the system, if the event is strict, and else of any
unfoldable pub names_module : List ℕ → Bool → List ℕ → Bool
names_module name is_strict path =
    if list_any (λ b. b == 47) name then bytes_eq path name
    else if is_strict then option_map_or (λ found. bytes_eq found (without_so name)) (module_name path) false
    else bytes_eq (without_so (name_of_path path)) (without_so name)
