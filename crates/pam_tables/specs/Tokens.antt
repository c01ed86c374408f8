-- The tokens of users and origins: access.conf(5).
use Rattle.std.specs.Prelude.{ℕ, ◌-◌, ◌==◌, ◌&&◌, ◌||◌, Bool, true, false, List, [], ◌∷◌, length, take, drop, map, filter, codes, nat_eq, nat_lt, nat_le}
use Rattle.std.specs.Prelude.{if◌then◌else◌, Option, Some, None, Result, Ok, Err}
use Rattle.std.specs.List.{list_any, slice_split, starts_with, ends_with}
use Rattle.std.specs.Option.{option_map_or}
use Rattle.pam_codes.specs.Code.{same_name}
use Rattle.pam_tables.specs.Address.{address_of}
use Rattle.pam_tables.specs.Groups.{Group, lists_user}
use Rattle.pam_tables.specs.Lines.{has_bytes, is_among, trimmed}
use Rattle.pam_tables.specs.Lists.{mark_of}
use Rattle.pam_tables.specs.Login.{OriginText, Remote, Local}
use Rattle.pam_tables.specs.Network.{network_of, is_in_network}
use Rattle.pam_tables.specs.declared.address.Address.{Address}
use Rattle.pam_tables.specs.declared.address.Address.TheVariants as addresses
use Rattle.pam_tables.specs.declared.error.TableFault.{TableFault}
use Rattle.pam_tables.specs.declared.error.TableFault.TheVariants.{Netgroup, UserAtHost}
use Rattle.pam_tables.specs.declared.lists.Mark.{Mark}
use Rattle.pam_tables.specs.declared.lists.Mark.TheVariants.{Except, Match, Miss}
use Rattle.pam_tables.specs.declared.network.Network.{Network}

-- the texts between separators, without blanks at either end. Empty ones are dropped
unfoldable pub tokens_of : List ℕ → List ℕ → List (List ℕ)
tokens_of separators text = filter has_bytes (map trimmed (slice_split (is_among separators) text))

-- ---- users

-- the meaning of a token of users: EXCEPT, ALL, a group only, or a user or group
pub data UserPattern : Type 0 where
  UsersExcept : UserPattern
  AnyUser : UserPattern
  GroupOnly : List ℕ → UserPattern
  UserName : List ℕ → UserPattern

-- the name in parentheses, which is not empty
abbrev pub group_name : List ℕ → Option (List ℕ)
group_name token =
    if nat_lt 2 (length token) && (starts_with nat_eq token (codes "(") && ends_with nat_eq token (codes ")"))
    then Some (take (length token - 2) (drop 1 token)) else None

abbrev pub plain_user : List ℕ → Result UserPattern TableFault
plain_user token =
    if list_any (λ b. b == 64) token then Err UserAtHost
    else if same_name (codes "EXCEPT") token then Ok UsersExcept
    else if same_name (codes "ALL") token then Ok AnyUser
    else Ok (UserName token)

-- the meaning of a token of users. A leading `@` is a fault, and so is a later `@` outside of `(name)`
unfoldable pub user_token : List ℕ → Result UserPattern TableFault
user_token token =
    if starts_with nat_eq token (codes "@") then Err Netgroup
    else option_map_or (λ name. Ok (GroupOnly name)) (group_name token) (plain_user token)

-- how a token matches a user. If by_name, plain names may name groups
unfoldable pub user_mark : List Group → Bool → List ℕ → UserPattern → Mark
user_mark groups by_name user UsersExcept = Except
user_mark groups by_name user AnyUser = Match
user_mark groups by_name user (GroupOnly name) = mark_of (lists_user groups name user)
user_mark groups by_name user (UserName name) = mark_of (same_name name user || (by_name && lists_user groups name user))

-- ---- origins

-- the meaning of a token of origins
pub data OriginPattern : Type 0 where
  OriginsExcept : OriginPattern
  AnyOrigin : OriginPattern
  LocalOrigin : OriginPattern
  HostSuffix : List ℕ → OriginPattern
  HostPrefix : List ℕ → OriginPattern
  HostNetwork : Network → OriginPattern
  HostAddress : Address → List ℕ → OriginPattern
  OriginName : List ℕ → OriginPattern

abbrev pub plain_origin : List ℕ → OriginPattern
plain_origin token =
    if same_name (codes "EXCEPT") token then OriginsExcept
    else if same_name (codes "ALL") token then AnyOrigin
    else if same_name (codes "LOCAL") token then LocalOrigin
    else if starts_with nat_eq token (codes ".") then HostSuffix token
    else if ends_with nat_eq token (codes ".") then HostPrefix token
    else option_map_or (λ address. HostAddress address token) (address_of token) (OriginName token)

abbrev pub network_or_plain : List ℕ → Result (Option Network) TableFault → Result OriginPattern TableFault
network_or_plain token (Err fault) = Err fault
network_or_plain token (Ok (Some network)) = Ok (HostNetwork network)
network_or_plain token (Ok None) = Ok (plain_origin token)

-- the meaning of a token of origins. A leading `@` is a fault, and so is a bad mask after an address and a slash
unfoldable pub origin_token : List ℕ → Result OriginPattern TableFault
origin_token token = if starts_with nat_eq token (codes "@") then Err Netgroup else network_or_plain token (network_of token)

-- whether a text ends with another, ignoring case
abbrev pub ends_with_name : List ℕ → List ℕ → Bool
ends_with_name text end = nat_le (length end) (length text) && same_name end (drop (length text - length end) text)

abbrev pub same_address : Address → Address → Bool
same_address (addresses.V4 v) (addresses.V4 w) = v == w
same_address (addresses.V6 v) (addresses.V6 w) = v == w
same_address _ _ = false

abbrev pub is_v4 : Option Address → Bool
is_v4 (Some (addresses.V4 v)) = true
is_v4 _ = false

-- how a token matches a remote host, whose text writes this address
abbrev pub host_mark : List ℕ → Option Address → OriginPattern → Mark
host_mark host address OriginsExcept = Except
host_mark host address AnyOrigin = Match
host_mark host address LocalOrigin = Miss
host_mark host address (HostSuffix end) = mark_of (ends_with_name host end)
host_mark host address (HostPrefix front) = mark_of (is_v4 address && starts_with nat_eq host front)
host_mark host address (HostNetwork network) = mark_of (option_map_or (is_in_network network) address false)
host_mark host address (HostAddress own text) = mark_of (option_map_or (same_address own) address false)
host_mark host address (OriginName text) = mark_of (same_name text host)

-- how a token matches a terminal or a service
abbrev pub place_mark : List ℕ → OriginPattern → Mark
place_mark place OriginsExcept = Except
place_mark place AnyOrigin = Match
place_mark place LocalOrigin = Match
place_mark place (HostAddress own text) = mark_of (same_name text place)
place_mark place (OriginName text) = mark_of (same_name text place)
place_mark place _ = Miss

unfoldable pub origin_mark : OriginText → OriginPattern → Mark
origin_mark (Remote host) token = host_mark host (address_of host) token
origin_mark (Local place) token = place_mark place token

-- ---- all tokens of a list

abbrev pub with_token : {A : Type 0} → Result A TableFault → Result (List A) TableFault → Result (List A) TableFault
with_token (Err fault) others = Err fault
with_token (Ok x) (Ok xs) = Ok (x ∷ xs)
with_token (Ok x) (Err fault) = Err fault

-- the meanings of all tokens, or the first fault
unfoldable pub each_token : {A : Type 0} → (List ℕ → Result A TableFault) → List (List ℕ) → Result (List A) TableFault
each_token read [] = Ok []
each_token read (token ∷ tokens) = with_token (read token) (each_token read tokens)
