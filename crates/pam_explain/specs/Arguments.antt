-- Findings of the arguments of rules.
use Rattle.std.specs.Prelude.{List, [], ◌∷◌, map}
use Rattle.pam_explain.specs.Explanation.{Explanation}
use Rattle.pam_explain.specs.Views.{row_view}
use Rattle.pam_explain.specs.declared.arguments.TheConstants.{UNKNOWN_ARGUMENT, LONGER_WORD, ARGUMENT_OF_OTHER_KIND, BAD_VALUE, BAD_ARGUMENTS}
use Rattle.pam_explain.specs.declared.arguments.TheConstants.{NO_TOKEN, STORED_THOUGH_REFUSED, NOT_COUNTED, WEAK_HASH, MISSING_FILE}

-- THE ROWS, in the order of their numbers
abbrev pub of_arguments : List Explanation
of_arguments =
    map row_view (UNKNOWN_ARGUMENT ∷ LONGER_WORD ∷ ARGUMENT_OF_OTHER_KIND ∷ BAD_VALUE ∷ BAD_ARGUMENTS ∷ NO_TOKEN ∷ STORED_THOUGH_REFUSED ∷ NOT_COUNTED
    ∷ WEAK_HASH ∷ MISSING_FILE ∷ [])
