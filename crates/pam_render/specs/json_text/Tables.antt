-- The JSON of `access` and `time`: the line of a table that decides, as in pam_access(8) and pam_time(8).
use Rattle.std.specs.Prelude.{ℕ, Bool, true, false, List, [], ◌∷◌, codes, Option, Some, None}
use Rattle.pam_render.specs.json_lines.Line.{kind, line, number_or_null}
use Rattle.pam_tables.specs.declared.access.AccessAnswer.{AccessAnswer}
use Rattle.pam_tables.specs.declared.access.AccessAnswer.TheVariants as access
use Rattle.pam_tables.specs.declared.times.table.TimeAnswer.{TimeAnswer}
use Rattle.pam_tables.specs.declared.times.table.TimeAnswer.TheVariants as times
use Rattle.serde_json.specs.Data.{Data, boolean, string}

abbrev pub is_granted : AccessAnswer → Bool
is_granted (access.Granted at) = true
is_granted (access.Denied at) = false

-- the line that decides, if there is one
abbrev pub access_line : AccessAnswer → Option ℕ
access_line (access.Granted at) = at
access_line (access.Denied at) = Some at

-- the table of the line, where several are given
abbrev pub table_member : Option (List ℕ) → List (List ℕ × Data)
table_member None = []
table_member (Some table) = (codes "table", string table) ∷ []

abbrev pub access_members : AccessAnswer → Option (List ℕ) → List (List ℕ × Data)
access_members answer table =
    kind (codes "access") ∷ (codes "granted", boolean (is_granted answer)) ∷ (codes "line", number_or_null (access_line answer)) ∷ table_member table

-- THE JSON of `access`, with the name of the table where several are given
abbrev pub access_json : AccessAnswer → Option (List ℕ) → List ℕ
access_json answer table = line (access_members answer table)

abbrev pub is_allowed : TimeAnswer → Bool
is_allowed times.Granted = true
is_allowed (times.Denied at) = false

-- the line that denies, if one does
abbrev pub denied_at : TimeAnswer → Option ℕ
denied_at times.Granted = None
denied_at (times.Denied at) = Some at

abbrev pub time_members : TimeAnswer → List (List ℕ × Data)
time_members answer =
    kind (codes "time") ∷ (codes "granted", boolean (is_allowed answer)) ∷ (codes "line", number_or_null (denied_at answer)) ∷ []

-- THE JSON of `time`
abbrev pub time_json : TimeAnswer → List ℕ
time_json answer = line (time_members answer)
