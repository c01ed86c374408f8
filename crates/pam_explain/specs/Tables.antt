-- Faults of tables.
use Rattle.std.specs.Prelude.{List, [], ◌∷◌, map}
use Rattle.pam_explain.specs.Explanation.{Explanation}
use Rattle.pam_explain.specs.Views.{row_view}
use Rattle.pam_explain.specs.declared.tables.TheConstants.{MISSING_FIELD, BAD_PERMISSION, NETGROUP, USER_AT_HOST, BAD_MASK, BAD_TIMES, TWO_WILDCARDS}
use Rattle.pam_explain.specs.declared.tables.TheConstants.{BAD_LOGIC, BAD_GROUP, NUL_BYTE, MEMORY, TABLE_TOO_LONG}

-- THE ROWS, in the order of their numbers
abbrev pub of_tables : List Explanation
of_tables =
    map row_view (MISSING_FIELD ∷ BAD_PERMISSION ∷ NETGROUP ∷ USER_AT_HOST ∷ BAD_MASK ∷ BAD_TIMES ∷ TWO_WILDCARDS ∷ BAD_LOGIC ∷ BAD_GROUP ∷
    NUL_BYTE ∷ MEMORY ∷ TABLE_TOO_LONG ∷ [])
