-- Faults of cursors and moments.
use Rattle.std.specs.Prelude.{List, [], ◌∷◌, map}
use Rattle.pam_explain.specs.Explanation.{Explanation}
use Rattle.pam_explain.specs.Views.{row_view}
use Rattle.pam_explain.specs.declared.paths.TheConstants.{CURSOR_SYNTAX, NOT_LEAST, TOO_SHORT, TOO_LONG, MOMENT_RANGE, ZONE_RULE, MOMENT_SYNTAX}

-- THE ROWS, in the order of their numbers
abbrev pub of_paths : List Explanation
of_paths = map row_view (CURSOR_SYNTAX ∷ NOT_LEAST ∷ TOO_SHORT ∷ TOO_LONG ∷ MOMENT_RANGE ∷ ZONE_RULE ∷ MOMENT_SYNTAX ∷ [])
