-- What released Linux-PAM reads otherwise than the manual pages say.
use Rattle.std.specs.Prelude.{List, [], ◌∷◌, map}
use Rattle.pam_explain.specs.Explanation.{Explanation}
use Rattle.pam_explain.specs.Views.{row_view}
use Rattle.pam_explain.specs.declared.released.TheConstants.{CARRIAGE_RETURN, CONTINUED_OVER_BLANK, BACKSLASH_BLANK, BACKSLASH_COMMENT}
use Rattle.pam_explain.specs.declared.released.TheConstants.{ENDS_IN_CONTINUATION, CAPITAL_IN_BRACKETS, LONG_LINE, EMPTY_MODULE_NAME, DROPPED_BLANK}
use Rattle.pam_explain.specs.declared.released.TheConstants.{INCLUDED_FROM_VENDOR}

-- THE ROWS, in the order of their numbers
abbrev pub of_released : List Explanation
of_released =
    map row_view (CARRIAGE_RETURN ∷ CONTINUED_OVER_BLANK ∷ BACKSLASH_BLANK ∷ BACKSLASH_COMMENT ∷ ENDS_IN_CONTINUATION ∷ CAPITAL_IN_BRACKETS ∷
    LONG_LINE ∷ EMPTY_MODULE_NAME ∷ DROPPED_BLANK ∷ INCLUDED_FROM_VENDOR ∷ [])
