-- Which arguments of a rule its module reads: pam_exec(8).
use Rattle.std.specs.Prelude.{ℕ, ◌||◌, Bool, List, [], ◌∷◌, codes, length, take, if◌then◌else◌}
use Rattle.std.specs.List.{list_any, take_while}
use Rattle.std.specs.Str.{bytes_eq}
use Rattle.pam_codes.specs.Code.{same_name}

-- the options of pam_exec without a value, and those with one, each in any case
unfoldable pub plain_options : List (List ℕ)
plain_options =
    codes "debug" ∷ codes "expose_authtok" ∷ codes "quiet" ∷ codes "quiet_log" ∷ codes "seteuid" ∷ codes "stdout" ∷ []

unfoldable pub valued_options : List (List ℕ)
valued_options = codes "log=" ∷ codes "type=" ∷ []

abbrev pub begins_with : List ℕ → List ℕ → Bool
begins_with word option = same_name (take (length option) word) option

abbrev pub is_option : List ℕ → Bool
is_option word = list_any (same_name word) plain_options || list_any (begins_with word) valued_options

-- THE ARGUMENTS that a module reads, by its name: pam_exec reads its options up to the program, which has all that come after it
abbrev pub arguments_read : List ℕ → List (List ℕ) → List (List ℕ)
arguments_read name arguments = if bytes_eq name (codes "pam_exec") then take_while is_option arguments else arguments
