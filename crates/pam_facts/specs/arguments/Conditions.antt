-- What pam_succeed_if is to judge: pam_succeed_if(8).
use Rattle.std.specs.Prelude.{ℕ, ◌&&◌, Bool, true, false, not, List, [], ◌∷◌, codes}
use Rattle.std.specs.List.{filter, list_any}
use Rattle.std.specs.Str.{bytes_eq}
use Rattle.pam_codes.specs.Code.{same_name}

-- the words that are flags, wherever they stand
unfoldable pub flags : List (List ℕ)
flags = codes "debug" ∷ codes "use_uid" ∷ codes "quiet" ∷ codes "quiet_fail" ∷ codes "quiet_success" ∷ codes "audit" ∷ []

-- what is looked at, in any case
unfoldable pub fields : List (List ℕ)
fields =
    codes "user" ∷ codes "login" ∷ codes "name" ∷ codes "uid" ∷ codes "gid" ∷ codes "shell" ∷ codes "home" ∷ codes "dir" ∷ codes "homedir"
    ∷ codes "ruser" ∷ codes "rhost" ∷ codes "tty" ∷ codes "service" ∷ []

-- what it is tested for, in any case
unfoldable pub tests : List (List ℕ)
tests =
    codes "<" ∷ codes "lt" ∷ codes "<=" ∷ codes "le" ∷ codes ">" ∷ codes "gt" ∷ codes ">=" ∷ codes "ge" ∷ codes "eq" ∷ codes "ne" ∷ codes "="
    ∷ codes "!=" ∷ codes "=~" ∷ codes "glob" ∷ codes "!~" ∷ codes "noglob" ∷ codes "in" ∷ codes "notin" ∷ codes "ingroup" ∷ codes "notingroup"
    ∷ codes "innetgr" ∷ codes "notinnetgr" ∷ []

abbrev pub is_flag : List ℕ → Bool
is_flag word = list_any (bytes_eq word) flags

abbrev pub is_field : List ℕ → Bool
is_field word = list_any (same_name word) fields

abbrev pub is_test : List ℕ → Bool
is_test word = list_any (same_name word) tests

-- a condition is three words: a field, a test, and a value to test for
abbrev pub are_conditions : List (List ℕ) → Bool
are_conditions [] = true
are_conditions (field ∷ test ∷ value ∷ others) = is_field field && (is_test test && are_conditions others)
are_conditions words = false

-- THE WORDS OF A RULE ARE CONDITIONS, without its flags
unfoldable pub can_be_judged : List (List ℕ) → Bool
can_be_judged words = are_conditions (filter (λ word. not (is_flag word)) words)
