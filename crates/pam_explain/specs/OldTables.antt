-- What released Linux-PAM reads otherwise in tables.
use Rattle.std.specs.Prelude.{List, [], ◌∷◌, map}
use Rattle.pam_explain.specs.Explanation.{Explanation}
use Rattle.pam_explain.specs.Views.{row_view}
use Rattle.pam_explain.specs.declared.old_tables.TheConstants.{ZERO_MASK, NO_LINE_FEED_IN_ACCESS_TABLE, LEADING_BLANK, BLANK_IN_TOKEN}
use Rattle.pam_explain.specs.declared.old_tables.TheConstants.{EMPTY_SEPARATOR, MASK_DIGITS, LOOPBACK, NO_LINE_FEED_IN_TIME_TABLE, ODD_BYTES}
use Rattle.pam_explain.specs.declared.old_tables.TheConstants.{LONG_FIELD, FINISH_MINUTE}

-- THE ROWS, in the order of their numbers
abbrev pub of_old_tables : List Explanation
of_old_tables =
    map row_view (ZERO_MASK ∷ NO_LINE_FEED_IN_ACCESS_TABLE ∷ LEADING_BLANK ∷ BLANK_IN_TOKEN ∷ EMPTY_SEPARATOR ∷ MASK_DIGITS ∷ LOOPBACK ∷
    NO_LINE_FEED_IN_TIME_TABLE ∷ ODD_BYTES ∷ LONG_FIELD ∷ FINISH_MINUTE ∷ [])
