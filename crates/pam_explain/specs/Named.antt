-- Faults of what the words name: services, candidates, answers, and files that are read or written.
use Rattle.std.specs.Prelude.{List, [], ◌∷◌, map}
use Rattle.pam_explain.specs.Explanation.{Explanation}
use Rattle.pam_explain.specs.Views.{row_view}
use Rattle.pam_explain.specs.declared.named.TheConstants.{NO_SUCH_SERVICE, UNUSED_CANDIDATE, ANSWERS_NAME, FAILED_READ, FAILED_WRITE}

-- THE ROWS, in the order of their numbers
abbrev pub of_named : List Explanation
of_named = map row_view (NO_SUCH_SERVICE ∷ UNUSED_CANDIDATE ∷ ANSWERS_NAME ∷ FAILED_READ ∷ FAILED_WRITE ∷ [])
