-- Findings of `pamcheck policy`.
use Rattle.std.specs.Prelude.{List, [], ◌∷◌, map}
use Rattle.pam_explain.specs.Explanation.{Explanation}
use Rattle.pam_explain.specs.Views.{row_view}
use Rattle.pam_explain.specs.declared.policies.TheConstants.{BROKEN, IMPOSSIBLE, NO_SERVICE_FITS, NO_MODULE_FITS, IDLE, NOT_KNOWN, NO_ARGUMENT}

-- THE ROWS, in the order of their numbers
abbrev pub of_policies : List Explanation
of_policies = map row_view (BROKEN ∷ IMPOSSIBLE ∷ NO_SERVICE_FITS ∷ NO_MODULE_FITS ∷ IDLE ∷ NOT_KNOWN ∷ NO_ARGUMENT ∷ [])
