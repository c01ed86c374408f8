-- Faults of a rule by itself.
use Rattle.std.specs.Prelude.{List, [], ◌∷◌, map}
use Rattle.pam_explain.specs.Explanation.{Explanation}
use Rattle.pam_explain.specs.Views.{row_view}
use Rattle.pam_explain.specs.declared.rules.TheConstants.{NUL_BYTE, MISSING_FIELD, BAD_KIND, BAD_CONTROL, BAD_VALUE, BAD_ACTION, ZERO_JUMP}
use Rattle.pam_explain.specs.declared.rules.TheConstants.{OPEN_BRACKET}

-- THE ROWS, in the order of their numbers
abbrev pub of_rules : List Explanation
of_rules = map row_view (NUL_BYTE ∷ MISSING_FIELD ∷ BAD_KIND ∷ BAD_CONTROL ∷ BAD_VALUE ∷ BAD_ACTION ∷ ZERO_JUMP ∷ OPEN_BRACKET ∷ [])
