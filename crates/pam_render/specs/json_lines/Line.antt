-- A line of an answer: a JSON object (RFC 8259) with no space, and a line feed.
use Rattle.std.specs.Prelude.{ℕ, Bool, true, List, [], ◌∷◌, ◌++◌, codes, map, None, Option, Some}
use Rattle.std.specs.List.{flat_map}
use Rattle.std.specs.Str.Lossy.{utf8_lossy}
use Rattle.serde_json.specs.Data.{Data, Items, Members, array, item, member, no_items, no_members, null, number, object, string, unsigned}
use Rattle.serde_json.specs.Written.{comma_if, compact_text}

abbrev pub items_of : List Data → Items
items_of [] = no_items
items_of (d ∷ ds) = item d (items_of ds)

-- values after a comma each, but the first only if it comes later in an array
abbrev pub separated : Bool → List Data → List ℕ
separated later [] = []
separated later (d ∷ ds) = comma_if later ++ (compact_text d ++ separated true ds)

-- the members of an object, in the order in which they are written
abbrev pub members_of : List (List ℕ × Data) → Members
members_of [] = no_members
members_of (m ∷ ms) = member m.0 m.1 (members_of ms)

-- THE LINE of these members
abbrev pub line : List (List ℕ × Data) → List ℕ
line members = compact_text (object (members_of members)) ++ codes "\n"

-- the member `kind`, with which each line begins
abbrev pub kind : List ℕ → List ℕ × Data
kind name = (codes "kind", string name)

abbrev pub number_or_null : Option ℕ → Data
number_or_null None = null
number_or_null (Some n) = number (unsigned n)

-- bytes as a string, with U+FFFD in place of invalid UTF-8
abbrev pub readable : List ℕ → Data
readable bytes = string (utf8_lossy bytes)

abbrev pub readable_or_null : Option (List ℕ) → Data
readable_or_null None = null
readable_or_null (Some bytes) = readable bytes

-- texts as an array of strings
abbrev pub strings : List (List ℕ) → Data
strings texts = array (items_of (map readable texts))

-- texts one after another as one string
abbrev pub joined : List (List ℕ) → Data
joined texts = string (flat_map utf8_lossy texts)
