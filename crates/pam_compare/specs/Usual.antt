-- Which of several codes is shown: the comparison of two configurations.
use Rattle.std.specs.Prelude.{ℕ, List, ◌∷◌, Option}
use Rattle.std.specs.List.{find}
use Rattle.pam_codes.specs.Code.{all_codes, auth_err, ignored, perm_denied, success}
use Rattle.pam_codes.specs.Set.{is_in}

abbrev pub authinfo_unavail : ℕ
authinfo_unavail = 9

abbrev pub user_unknown : ℕ
user_unknown = 10

-- the codes that people meet most, and then all, by their numbers
unfoldable pub usual_order : List ℕ
usual_order = success ∷ auth_err ∷ perm_denied ∷ user_unknown ∷ authinfo_unavail ∷ ignored ∷ all_codes

-- THE FIRST USUAL CODE among these
unfoldable pub first_usual : List ℕ → Option ℕ
first_usual codes = find (λ c. is_in c codes) usual_order
