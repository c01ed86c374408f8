-- Faults of a stack: files that rules name, and limits.
use Rattle.std.specs.Prelude.{List, [], ◌∷◌, map}
use Rattle.pam_explain.specs.Explanation.{Explanation}
use Rattle.pam_explain.specs.Views.{row_view}
use Rattle.pam_explain.specs.declared.stacks.TheConstants.{MISSING_TARGET, BAD_TARGET, CYCLE, TOO_DEEP, TOO_MANY_MODULES, INCLUDE_IN_SINGLE_FILE}
use Rattle.pam_explain.specs.declared.stacks.TheConstants.{NO_SERVICE, FILE_TOO_LONG, MEMORY, TOO_MANY_FOLLOWED, TOO_MANY_STATES, WRONG_COUNT}

-- THE ROWS, in the order of their numbers
abbrev pub of_stacks : List Explanation
of_stacks =
    map row_view (MISSING_TARGET ∷ BAD_TARGET ∷ CYCLE ∷ TOO_DEEP ∷ TOO_MANY_MODULES ∷ INCLUDE_IN_SINGLE_FILE ∷ NO_SERVICE ∷ FILE_TOO_LONG ∷ MEMORY ∷
    TOO_MANY_FOLLOWED ∷ TOO_MANY_STATES ∷ WRONG_COUNT ∷ [])
