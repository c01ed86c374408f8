-- Faults of the words of the command line.
use Rattle.std.specs.Prelude.{List, [], ◌∷◌, map}
use Rattle.pam_explain.specs.Explanation.{Explanation}
use Rattle.pam_explain.specs.Views.{row_view}
use Rattle.pam_explain.specs.declared.words.TheConstants.{NOT_UTF8, SOURCE, KIND_NAME, CODE_NAME, LOGIN, MOMENT, MEMORY, BOTH_ENDS, NO_SUCH_MODULE}
use Rattle.pam_explain.specs.declared.words.TheConstants.{NO_SUCH_KEY, BOTH_FILTERS, FORMAT_NAME, LEVEL_NAME, NO_SUCH_NUMBER, CANDIDATE_FORM}
use Rattle.pam_explain.specs.declared.words.TheConstants.{RELEASE_FORM, SETTING_FORM}

-- THE ROWS, in the order of their numbers
abbrev pub of_words : List Explanation
of_words =
    map row_view (NOT_UTF8 ∷ SOURCE ∷ KIND_NAME ∷ CODE_NAME ∷ LOGIN ∷ MOMENT ∷ MEMORY ∷ BOTH_ENDS ∷ NO_SUCH_MODULE ∷ NO_SUCH_KEY ∷ BOTH_FILTERS ∷
    FORMAT_NAME ∷ LEVEL_NAME ∷ NO_SUCH_NUMBER ∷ CANDIDATE_FORM ∷ RELEASE_FORM ∷ SETTING_FORM ∷ [])
