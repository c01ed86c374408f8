-- The services and the kinds that a rule is about: its first two words.
use Rattle.std.specs.Prelude.{ℕ, ◌==◌, ◌&&◌, ◌||◌, Bool, true, not, List, [], ◌∷◌}
use Rattle.std.specs.Prelude.{codes, drop, filter, length, map, nat_eq, take, Result, Ok, Err, if◌then◌else◌}
use Rattle.std.specs.List.{list_all, list_any, slice_split, starts_with}
use Rattle.std.specs.Option.{option_map_or}
use Rattle.std.specs.Str.{bytes_eq}
use Rattle.pam_codes.specs.Code.{same_name}
use Rattle.pam_text.specs.Cut.{cut_at, is_among}
use Rattle.pam_facts.specs.Kinds.{kinds_of_names}
use Rattle.pam_facts.specs.declared.kinds.Kinds.{Kinds}
use Rattle.pam_tables.specs.Lines.{has_bytes}
use Rattle.pam_tables.specs.Tokens.{ends_with_name}
use Rattle.pam_tables.specs.times.Pattern.{has_two_stars}
use Rattle.pam_policy.specs.declared.text.error.PolicyFault.{PolicyFault}
use Rattle.pam_policy.specs.declared.text.error.PolicyFault.TheVariants.{BadKinds, BadServices}
use Rattle.pam_policy.specs.declared.text.services.Services.{Services}

-- NAMES that a rule is about, and those that it leaves out

pub record ServicesText : Type 0 where
  pub wanted : List (List ℕ)
  pub unwanted : List (List ℕ)

abbrev pub services_view : Services → ServicesText
services_view s = record { wanted = map (λ name. name.now) s.wanted.items; unwanted = map (λ name. name.now) s.unwanted.items }

-- READING

-- a token with `!` leaves out what its name fits
abbrev pub leaves_out : List ℕ → Bool
leaves_out token = starts_with nat_eq token (codes "!")

abbrev pub token_name : List ℕ → List ℕ
token_name token = if leaves_out token then drop 1 token else token

-- a name is not empty, has neither `!` nor `/`, and one `*` at most
abbrev pub is_name : List ℕ → Bool
is_name name = has_bytes name && not (list_any (λ b. b == 33 || b == 47) name || has_two_stars name)

-- the texts between commas, of which there is at least one
abbrev pub tokens_in : List ℕ → List (List ℕ)
tokens_in word = slice_split (λ b. b == 44) word

abbrev pub services_of_tokens : List (List ℕ) → Result ServicesText PolicyFault
services_of_tokens tokens =
    if list_all (λ token. is_name (token_name token)) tokens && list_any (λ token. not (leaves_out token)) tokens
    then Ok record { wanted = filter (λ token. not (leaves_out token)) tokens; unwanted = map (drop 1) (filter leaves_out tokens) }
    else Err BadServices

-- THE SERVICES of a word: tokens, of which each has a name, and one is without `!`
unfoldable pub services_of : List ℕ → Result ServicesText PolicyFault
services_of word = services_of_tokens (tokens_in word)

abbrev pub all_kinds : Kinds
all_kinds = record { auth = true; account = true; password = true; session = true }

-- THE KINDS of a word: all of them, or those that it names
unfoldable pub kinds_of : List ℕ → Result Kinds PolicyFault
kinds_of word = if bytes_eq word (codes "*") then Ok all_kinds else option_map_or Ok (kinds_of_names (tokens_in word)) (Err BadKinds)

-- MEANING

-- a service begins with one text, and what is after it ends with another
abbrev pub is_framed : List ℕ → List ℕ → List ℕ → Bool
is_framed front back service = same_name front (take (length front) service) && ends_with_name (drop (length front) service) back

-- whether a service matches a name, in which `*` matches any bytes. Case is ignored
unfoldable pub name_fits : List ℕ → List ℕ → Bool
name_fits name service = option_map_or (λ cut. is_framed cut.0 cut.1 service) (cut_at (is_among (42 ∷ [])) name) (same_name name service)

-- WHETHER A RULE IS ABOUT a service: a name that is wanted fits it, and none that is left out does
unfoldable pub fits : ServicesText → List ℕ → Bool
fits services service =
    list_any (λ name. name_fits name service) services.wanted && not (list_any (λ name. name_fits name service) services.unwanted)
