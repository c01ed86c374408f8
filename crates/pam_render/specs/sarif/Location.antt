-- Where a finding is: a file as a URI reference (RFC 3986), the line in it, and the columns of a word.
use Rattle.std.specs.Prelude.{ℕ, ◌+◌, ◌/◌, ◌%◌, ◌==◌, ◌||◌, nat_eq, nat_lt, Bool, List, [], ◌∷◌, ◌++◌, codes, if◌then◌else◌, Option, None, Some}
use Rattle.std.specs.Char.{is_ascii_alphanumeric}
use Rattle.std.specs.List.{flat_map, list_any, starts_with}
use Rattle.pam_findings.specs.declared.misspelled.spot.Spot.{Spot}
use Rattle.pam_render.specs.json_lines.Line.{items_of, members_of}
use Rattle.pam_render.specs.parts.Check.{at_most}
use Rattle.serde_json.specs.Data.{Data, array, number, object, string, unsigned}

-- what stands for itself: letters, digits, what a URI does not reserve, and the slash between names
abbrev pub is_uri_byte : ℕ → Bool
is_uri_byte byte = is_ascii_alphanumeric byte || list_any (λ x. x == byte) (codes "/-._~")

-- the hexadecimal digit of a number below 16
abbrev pub uri_digit : ℕ → ℕ
uri_digit n = if nat_lt n 10 then 48 + n else 55 + n

-- a byte, as `%2A` if it does not stand for itself
abbrev pub uri_byte : ℕ → List ℕ
uri_byte byte = if is_uri_byte byte then byte ∷ [] else 37 ∷ uri_digit (byte / 16) ∷ uri_digit (byte % 16) ∷ []

-- an absolute path is one of this machine
abbrev pub scheme_of : List ℕ → List ℕ
scheme_of path = if starts_with nat_eq path (codes "/") then codes "file://" else []

-- A PATH as a URI reference
abbrev pub uri_of : List ℕ → List ℕ
uri_of path = scheme_of path ++ flat_map uri_byte path

abbrev pub artifact_object : List ℕ → Data
artifact_object path = object (members_of ((codes "uri", string (uri_of path)) ∷ []))

-- the column after the last byte of a word
abbrev pub end_column : Spot → ℕ
end_column spot = at_most (spot.column + spot.len)

abbrev pub region_members : ℕ → Option Spot → List (List ℕ × Data)
region_members at None = (codes "startLine", number (unsigned at)) ∷ []
region_members at (Some spot) =
    (codes "startLine", number (unsigned spot.line)) ∷ (codes "startColumn", number (unsigned spot.column))
    ∷ (codes "endColumn", number (unsigned (end_column spot))) ∷ []

abbrev pub region_object : ℕ → Option Spot → Data
region_object at spot = object (members_of (region_members at spot))

-- a file as a whole has no line
abbrev pub region_if_any : ℕ → Option Spot → List (List ℕ × Data)
region_if_any at spot = if at == 0 then [] else (codes "region", region_object at spot) ∷ []

abbrev pub physical_object : List ℕ → ℕ → Option Spot → Data
physical_object path at spot = object (members_of ((codes "artifactLocation", artifact_object path) ∷ region_if_any at spot))

abbrev pub location_object : List ℕ → ℕ → Option Spot → Data
location_object path at spot = object (members_of ((codes "physicalLocation", physical_object path at spot) ∷ []))

-- THE LOCATIONS of a finding: the word that it is about, if there is one, or its line
abbrev pub locations_array : List ℕ → ℕ → Option Spot → Data
locations_array path at spot = array (items_of (location_object path at spot ∷ []))
