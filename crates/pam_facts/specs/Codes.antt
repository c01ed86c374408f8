-- The codes that the words of a row say, after its class: kinds, and one or more codes; then other kinds and their codes.
use Rattle.std.specs.Prelude.{ℕ, ◌==◌, position, ◌&&◌, ◌||◌, Bool, true, false, not, List, [], ◌∷◌, is_some, if◌then◌else◌, Option, Some, None}
use Rattle.std.specs.Option.{option_map_or}
use Rattle.pam_codes.specs.Code.{code_names, same_name}
use Rattle.pam_codes.specs.Set.{codes_where}
use Rattle.pam_conf.specs.declared.rule.Kind.{Kind}
use Rattle.pam_conf.specs.declared.rule.Kind.TheVariants.{Auth, Account, Password, Session}
use Rattle.pam_facts.specs.Kinds.{has_kind, kinds_named}
use Rattle.pam_facts.specs.declared.row.CodesByKind.{CodesByKind}

-- the code of a name, in either case
abbrev pub code_named : List ℕ → Option ℕ
code_named word = position (λ name. same_name name word) code_names

-- whether a word is a name of this code
abbrev pub names_code : ℕ → List ℕ → Bool
names_code code word = option_map_or (λ c. code == c) (code_named word) false

abbrev pub begin_with_kinds : List (List ℕ) → Bool
begin_with_kinds [] = true
begin_with_kinds (word ∷ words) = is_some (kinds_named word)

-- whether each word is kinds or a code, and a code follows each kinds; `needs_code` if kinds are before these words
unfoldable pub are_complete : Bool → List (List ℕ) → Bool
are_complete needs_code [] = not needs_code
are_complete needs_code (word ∷ words) =
    if is_some (kinds_named word) then not needs_code && are_complete true words
    else is_some (code_named word) && are_complete false words

-- whether words say a code in a kind: they name it after kinds that have this kind, and before other kinds. `here` if the last
-- kinds before these words have it
unfoldable pub say_code : Kind → ℕ → Bool → List (List ℕ) → Bool
say_code kind code here [] = false
say_code kind code here (word ∷ words) =
    option_map_or (λ kinds. say_code kind code (has_kind kind kinds) words) (kinds_named word)
    ((here && names_code code word) || say_code kind code here words)

-- the codes that words say in a kind
abbrev pub codes_said_in : Kind → List (List ℕ) → List ℕ
codes_said_in kind words = codes_where (λ code. say_code kind code false words)

-- THE CODES that the words say, in each kind
unfoldable pub codes_said : List (List ℕ) → Option CodesByKind
codes_said words =
    if are_complete false words && begin_with_kinds words
    then Some (record {
      auth = codes_said_in Auth words;
      account = codes_said_in Account words;
      password = codes_said_in Password words;
      session = codes_said_in Session words;
    })
    else None
