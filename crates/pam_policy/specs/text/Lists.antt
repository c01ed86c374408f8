-- Lists of events: `EVENT {or EVENT}` or `EVENT {and EVENT}`.
use Rattle.std.specs.Prelude.{ℕ, ◌+◌, ◌&&◌, Bool, true, false, List, [], ◌∷◌, codes, map, nat_le, unwrap_or, Option, Some, None, Result, Ok, Err}
use Rattle.std.specs.Prelude.{if◌then◌else◌}
use Rattle.std.specs.Str.{bytes_eq}
use Rattle.pam_codes.specs.Code.{all_codes}
use Rattle.pam_policy.specs.declared.text.codes.Codes.{Codes}
use Rattle.pam_policy.specs.declared.text.codes.Codes.TheVariants.{Given, LetsGoOn}
use Rattle.pam_policy.specs.declared.text.error.PolicyFault.{PolicyFault}
use Rattle.pam_policy.specs.declared.text.error.PolicyFault.TheVariants.{BadList, MissingField}
use Rattle.pam_policy.specs.declared.text.list.Events.{Events}
use Rattle.pam_policy.specs.declared.text.list.Events.TheVariants as lists
use Rattle.pam_policy.specs.declared.text.list.TheConstants.{MAX_TOGETHER}
use Rattle.pam_policy.specs.declared.text.place.Joint.{Joint}
use Rattle.pam_policy.specs.declared.text.place.Joint.TheVariants.{Or, And}
use Rattle.pam_policy.specs.declared.text.place.Place.{Place}
use Rattle.pam_policy.specs.declared.text.place.Place.TheVariants.{Needs, Obeys, Asks, NeverOrCanAsk, With, Without}
use Rattle.pam_policy.specs.text.Codes.{failures}
use Rattle.pam_policy.specs.text.Error.{◌>>=◌}
use Rattle.pam_policy.specs.text.Events.{EventText, event_of, event_view}

-- events of which one is to happen, or each
pub data EventsText : Type 0 where
  OneOf : List EventText → EventsText
  EachOf : List EventText → EventsText

abbrev pub events_view : Events → EventsText
events_view (lists.Or events) = OneOf (map event_view events.items)
events_view (lists.And events) = EachOf (map event_view events.items)

-- WHAT A PLACE SAYS of the list there

-- the codes by which an event of a bare name happens. None: they have to be given
abbrev pub bare_codes : Place → Option Codes
bare_codes Needs = Some LetsGoOn
bare_codes Obeys = Some (Given failures)
bare_codes Asks = Some (Given all_codes)
bare_codes NeverOrCanAsk = Some (Given all_codes)
bare_codes With = None
bare_codes Without = None

-- `obeys` has lists with `and` alone
abbrev pub allows : Place → Joint → Bool
allows Obeys Or = false
allows place joint = true

-- where at most four events are joined by `and`
abbrev pub is_limited : Place → Joint → Bool
is_limited NeverOrCanAsk And = true
is_limited With And = true
is_limited place joint = false

-- whether a list of this many events can have another one at a place
abbrev pub has_room : Place → Joint → ℕ → Bool
has_room place joint count = if is_limited place joint then nat_le (count + 1) MAX_TOGETHER else true

-- READING

abbrev pub joint_of : List ℕ → Option Joint
joint_of word = if bytes_eq word (codes "or") then Some Or else if bytes_eq word (codes "and") then Some And else None

-- the joint of a list, by what is after its first event. One of a single event has `or`
abbrev pub joint_before : List (List ℕ) → Joint
joint_before [] = Or
joint_before (word ∷ words) = unwrap_or (joint_of word) Or

abbrev pub same_joint : Joint → Joint → Bool
same_joint Or Or = true
same_joint And And = true
same_joint joint other = false

-- a word after an event: whether another one has to follow, which joint the list has, and that a place allows it
abbrev pub goes_on : Place → Joint → Option Joint → Result Bool PolicyFault
goes_on place joint None = Ok false
goes_on place joint (Some found) = if same_joint found joint && allows place joint then Ok true else Err BadList

abbrev pub roomy : Place → Joint → ℕ → Result (Unit {0}) PolicyFault
roomy place joint count = if has_room place joint count then Ok tt else Err BadList

-- events, and the words after their list
abbrev pub Read : Type 0
Read = List EventText × List (List ℕ)

-- the events that follow `count` others, and the words after them
unfoldable pub joined : Place → Joint → ℕ → List (List ℕ) → Result Read PolicyFault
joined place joint count [] = Ok ([], [])
joined place joint count (word ∷ []) =
    goes_on place joint (joint_of word) >>= λ more. if more then Err MissingField else Ok ([], word ∷ [])
joined place joint count (word ∷ next ∷ words) =
    goes_on place joint (joint_of word) >>= λ more.
    if more
    then (event_of (bare_codes place) next >>= λ event. roomy place joint count >>= λ room.
    joined place joint (count + 1) words >>= λ others. Ok (event ∷ others.0, others.1))
    else Ok ([], word ∷ next ∷ words)

abbrev pub with_joint : Joint → List EventText → EventsText
with_joint Or events = OneOf events
with_joint And events = EachOf events

-- THE LIST that words begin with, and the words after it
unfoldable pub events_of : Place → List (List ℕ) → Result (EventsText × List (List ℕ)) PolicyFault
events_of place [] = Err MissingField
events_of place (word ∷ words) = do
  first ← event_of (bare_codes place) word
  others ← joined place (joint_before words) 1 words
  Ok (with_joint (joint_before words) (first ∷ others.0), others.1)

-- ---- the events of a list

abbrev pub events_in : EventsText → List EventText
events_in (OneOf events) = events
events_in (EachOf events) = events

-- the same events, of which one is enough
abbrev pub one_of : EventsText → EventsText
one_of events = OneOf (events_in events)
