-- Faults of the files that are pamcheck's own: returns, accept and facts files, and policies.
use Rattle.std.specs.Prelude.{List, [], ◌∷◌, map}
use Rattle.pam_explain.specs.Explanation.{Explanation}
use Rattle.pam_explain.specs.Views.{row_view}
use Rattle.pam_explain.specs.declared.own_files.TheConstants.{BAD_CODE, BAD_MODULE, BAD_ACCEPT, BAD_FACT, BAD_SERVICES, BAD_KINDS, BAD_VERB}
use Rattle.pam_explain.specs.declared.own_files.TheConstants.{BAD_EVENT, BAD_LIST, NO_ANSWERS, EXTRA_WORD, TOO_MANY_RULES}

-- THE ROWS, in the order of their numbers
abbrev pub of_own_files : List Explanation
of_own_files =
    map row_view (BAD_CODE ∷ BAD_MODULE ∷ BAD_ACCEPT ∷ BAD_FACT ∷ BAD_SERVICES ∷ BAD_KINDS ∷ BAD_VERB ∷ BAD_EVENT ∷ BAD_LIST ∷ NO_ANSWERS ∷
    EXTRA_WORD ∷ TOO_MANY_RULES ∷ [])
