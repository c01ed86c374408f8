-- What a rule names and a host does not have: P3, P4 and P7.
use Rattle.std.specs.Prelude.{ℕ, ◌==◌, ◌&&◌, ◌||◌, Bool, not, List, [], ◌∷◌, ◌++◌, filter, filter_map, map, if◌then◌else◌}
use Rattle.std.specs.Prelude.{Option, Some, None, unwrap_or}
use Rattle.std.specs.Char.{to_ascii_lowercase}
use Rattle.std.specs.List.{flat_map, list_any}
use Rattle.std.specs.Option.{option_map}
use Rattle.std.specs.Str.{bytes_eq}
use Rattle.pam_codes.specs.Code.{same_name}
use Rattle.pam_facts.specs.Paths.{module_name}
use Rattle.pam_facts.specs.known.Answers.{name_of_path}
use Rattle.pam_spelling.specs.Nearest.{nearest}
use Rattle.pam_policy.specs.names.Host.{CallText, HostText}
use Rattle.pam_policy.specs.names.Placed.{PlacedText, placed_events, speaks_of}
use Rattle.pam_policy.specs.names.Words.{MisnamedText, NoService, FitsNone, NoModule, NoArgument, saying}
use Rattle.pam_policy.specs.text.Events.{without_so}
use Rattle.pam_policy.specs.text.Rules.{RuleText}
use Rattle.pam_policy.specs.text.Services.{ServicesText, fits}
use Rattle.pam_policy.specs.text.Tests.{TestText, argument_key, key_of}

-- P3, SERVICES. Case is ignored

-- a name with `*` may fit none
abbrev pub is_exact : List ℕ → Bool
is_exact name = not (list_any (λ b. b == 42) name)

abbrev pub is_service : HostText → List ℕ → Bool
is_service host name = list_any (same_name name) host.services

-- a name that is to be there and is no service
abbrev pub is_no_service : HostText → List ℕ → Bool
is_no_service host name = is_exact name && not (is_service host name)

abbrev pub no_service : HostText → List ℕ → MisnamedText
no_service host name = NoService record { text = name; nearest = nearest host.services (map to_ascii_lowercase name) }

-- if no name is wrong, a rule that fits no service
abbrev pub or_fits_none : HostText → ServicesText → List MisnamedText → List MisnamedText
or_fits_none host services (misnamed ∷ more) = misnamed ∷ more
or_fits_none host services [] = if list_any (fits services) host.services then [] else FitsNone ∷ []

unfoldable pub of_services : HostText → ServicesText → List MisnamedText
of_services host services = or_fits_none host services (saying [] (map (no_service host) (filter (is_no_service host) services.wanted)))

-- P4, MODULES

-- a row is about a module of an event's name, or the event speaks of a module that is there
abbrev pub is_known : HostText → PlacedText → Bool
is_known host placed =
    list_any (λ row. bytes_eq row (without_so placed.event.name)) host.known || list_any (speaks_of placed) (unwrap_or host.there [])

-- a rule calls a module of which an event speaks, or it is known
abbrev pub is_module : HostText → PlacedText → Bool
is_module host placed = list_any (λ call. speaks_of placed call.path) host.calls || is_known host placed

-- the name by which an event could speak of the module at a path
abbrev pub name_at : Bool → List ℕ → Option (List ℕ)
name_at is_strict path = if is_strict then module_name path else Some (without_so (name_of_path path))

-- the names of modules that a call or a row has
abbrev pub module_names : HostText → Bool → List (List ℕ)
module_names host is_strict = filter_map (λ call. name_at is_strict call.path) host.calls ++ host.known

-- the nearest of them; a path has none
unfoldable pub nearest_module : HostText → PlacedText → Option (List ℕ)
nearest_module host placed =
    if list_any (λ b. b == 47) placed.event.name then None
    else nearest (module_names host placed.is_strict) (without_so placed.event.name)

abbrev pub no_module : HostText → PlacedText → MisnamedText
no_module host placed = NoModule record { text = placed.event.name; nearest = nearest_module host placed }

unfoldable pub of_modules : HostText → List PlacedText → List MisnamedText
of_modules host events = map (no_module host) (filter (λ placed. not (is_module host placed)) events)

-- P7, ARGUMENTS

-- the keys of the arguments that these calls give to modules of which an event speaks
unfoldable pub keys_at : List CallText → PlacedText → List (List ℕ)
keys_at calls placed = flat_map (λ call. map argument_key call.arguments) (filter (λ call. speaks_of placed call.path) calls)

-- a key that is none of these, and near to one
abbrev pub no_argument : List ℕ → List (List ℕ) → List ℕ → Option MisnamedText
no_argument name keys key =
    if list_any (bytes_eq key) keys then None
    else option_map (λ near. NoArgument record { name = name; key = key; nearest = near }) (nearest keys key)

abbrev pub of_tests : List ℕ → List (List ℕ) → List TestText → List MisnamedText
of_tests name keys tests = filter_map (λ test. no_argument name keys (key_of test.wanted)) tests

unfoldable pub of_arguments : HostText → List PlacedText → List MisnamedText
of_arguments host events = flat_map (λ placed. of_tests placed.event.name (keys_at host.calls placed) placed.event.tests) events

-- WHAT A RULE NAMES that a host does not have, each once: of its services, its modules and their arguments, in the order of its words
unfoldable pub misnamed : HostText → RuleText → List MisnamedText
misnamed host rule =
    let events = placed_events rule.sentence in
    saying (saying (of_services host rule.services) (of_modules host events)) (of_arguments host events)
