-- For private contracts and proofs alone: access tables.
use Rattle.std.specs.Prelude.{ℕ, ◌&&◌, Bool, List, map, if◌then◌else◌, Option, Some, None}
use Rattle.pam_tables.specs.Groups.{Group}
use Rattle.pam_tables.specs.Lists.{list_matches}
use Rattle.pam_tables.specs.Tokens.{OriginPattern}
use Rattle.pam_tables.specs.declared.access.Permission.{Permission}
use Rattle.pam_tables.specs.declared.lists.Mark.{Mark}
use Rattle.pam_tables.specs.Access.{LineText, users_match}

-- the permission of an entry that matches a user and an origin, which marks the tokens of origins
abbrev pub permission_for : List Group → Bool → List ℕ → (OriginPattern → Mark) → Option LineText → Option Permission
permission_for groups by_name user marked None = None
permission_for groups by_name user marked (Some line) =
    if users_match groups by_name user line.users && list_matches (map marked line.origins) then Some line.permission else None
