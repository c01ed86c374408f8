-- The events of a stack: the names of its modules, and of modules with one name an argument that only one of them has.
use Rattle.std.specs.Prelude.{ℕ, ◌-◌, ◌==◌, ◌&&◌, ◌||◌, ◌++◌, Bool, true, false, not, List, [], ◌∷◌, codes, flat_map, map, nat_eq, option_and_then}
use Rattle.std.specs.Prelude.{option_to_list, position, slice_get, unwrap_or, if◌then◌else◌, Option, Some, None}
use Rattle.std.specs.List.{ends_with, list_all, list_any, range_with_len, starts_with}
use Rattle.std.specs.Option.{option_map_or, option_or}
use Rattle.std.specs.Str.{bytes_eq}
use Rattle.pam_conf.specs.Stack.{Items, module_at, module_count}
use Rattle.pam_facts.specs.Paths.{module_name}
use Rattle.pam_tables.specs.Lines.{has_bytes}
use Rattle.pam_text.specs.Blanks.{is_text_blank}
use Rattle.pam_policy.specs.declared.needs.event.StackEvent.{StackEvent}
use Rattle.pam_policy.specs.declared.text.codes.Codes.{Codes}
use Rattle.pam_policy.specs.text.Events.{EventText, is_name, is_name_byte}
use Rattle.pam_policy.specs.text.Tests.{Argument, TestText, test_wanting}
use Rattle.pam_policy.specs.text.Words.{begins_comment}

-- WHAT A POLICY CAN HAVE

-- a name is one word, no comment and no keyword
abbrev pub is_sayable_byte : ℕ → Bool
is_sayable_byte b = is_name_byte b && not (is_text_blank b)

abbrev pub is_sayable : List ℕ → Bool
is_sayable name = is_name name && (list_all is_sayable_byte name && not (begins_comment name))

-- an argument is read as the argument that is the text: not as its absence, a number that is compared, or the beginning of others
abbrev pub is_argument_byte : ℕ → Bool
is_argument_byte b = not (b == 91 || (b == 93 || (b == 60 || (b == 62 || is_text_blank b))))

abbrev pub is_pattern : List ℕ → Bool
is_pattern argument = starts_with nat_eq argument (codes "!") || ends_with nat_eq argument (codes "=")

abbrev pub is_sayable_argument : List ℕ → Bool
is_sayable_argument argument = has_bytes argument && (not (is_pattern argument) && list_all is_argument_byte argument)

-- THE NAME by which rules speak of the module at a path: that of a module of the system; at any other path that has a slash, the path
abbrev pub name_in_rules : List ℕ → Option (List ℕ)
name_in_rules path = option_or (module_name path) (if list_any (λ b. b == 47) path then Some path else None)

unfoldable pub said_name : List ℕ → Option (List ℕ)
said_name path = option_and_then (λ name. if is_sayable name then Some name else None) (name_in_rules path)

-- MODULES BY THEIR NUMBERS

abbrev pub module_numbers : Items → List ℕ
module_numbers items = range_with_len 1 (module_count items)

abbrev pub name_at : Items → ℕ → Option (List ℕ)
name_at items number = option_and_then (λ m. said_name m.path) (module_at number items)

abbrev pub is_said : List ℕ → List ℕ → Bool
is_said name path = option_map_or (λ said. bytes_eq said name) (said_name path) false

-- arguments have this one, if one is asked for
abbrev pub has_argument : Option (List ℕ) → List (List ℕ) → Bool
has_argument None arguments = true
has_argument (Some argument) arguments = list_any (λ a. bytes_eq a argument) arguments

-- the module has this name and argument
unfoldable pub is_called : Items → List ℕ → Option (List ℕ) → ℕ → Bool
is_called items name argument number =
    option_map_or (λ m. is_said name m.path && has_argument argument m.arguments) (module_at number items) false

-- another module than this one has them
abbrev pub has_other : Items → ℕ → List ℕ → Option (List ℕ) → Bool
has_other items number name argument =
    list_any (λ other. not (other == number) && is_called items name argument other) (module_numbers items)

-- no module above this one has the name
abbrev pub is_first : Items → ℕ → List ℕ → Bool
is_first items number name = not (list_any (is_called items name None) (range_with_len 1 (number - 1)))

-- EVENTS

abbrev pub event_with : ℕ → Option ℕ → StackEvent
event_with number argument = record { «module» = number; argument = argument }

-- a name, at the first module that has it
abbrev pub name_events : Items → ℕ → List ℕ → List StackEvent
name_events items number name = if is_first items number name then event_with number None ∷ [] else []

-- an argument that a policy can have, and that no other module of the name has
abbrev pub is_own : Items → ℕ → List ℕ → List ℕ → Bool
is_own items number name argument = is_sayable_argument argument && not (has_other items number name (Some argument))

-- the position of the first of these, where several modules have the name
unfoldable pub own_argument : Items → ℕ → List ℕ → Option ℕ
own_argument items number name =
    if has_other items number name None then option_map_or (λ m. position (is_own items number name) m.arguments) (module_at number items) None
    else None

abbrev pub argument_events : Items → ℕ → List ℕ → List StackEvent
argument_events items number name = map (λ position. event_with number (Some position)) (option_to_list (own_argument items number name))

-- the events of the module with this number
unfoldable pub events_at : Items → ℕ → List StackEvent
events_at items number =
    option_map_or (λ name. name_events items number name ++ argument_events items number name) (name_at items number) []

-- THE EVENTS OF A STACK, in the order of its modules
unfoldable pub events_of : Items → List StackEvent
events_of items = flat_map (events_at items) (module_numbers items)

-- AN EVENT IN WORDS

-- its name; empty where it is of no module that rules can name
unfoldable pub event_name : Items → StackEvent → List ℕ
event_name items event = unwrap_or (name_at items event.«module») []

-- its argument, if it has one
unfoldable pub event_argument : Items → StackEvent → Option (List ℕ)
event_argument items event =
    option_and_then (λ m. option_and_then (λ position. slice_get m.arguments position) event.argument) (module_at event.«module» items)

abbrev pub tests_for : Option (List ℕ) → List TestText
tests_for None = []
tests_for (Some argument) = test_wanting false (Argument argument) ∷ []

-- the event of a sentence, which happens by these codes
abbrev pub event_text : Items → Codes → StackEvent → EventText
event_text items codes event = record { name = event_name items event; tests = tests_for (event_argument items event); codes = codes }
