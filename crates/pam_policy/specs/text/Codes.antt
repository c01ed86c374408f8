-- CODES: the return codes that a word names, as `any`, `auth_err,failure` or `but:success`. Case is ignored.
use Rattle.std.specs.Prelude.{ℕ, ◌==◌, ◌||◌, Bool, not, List, [], ◌∷◌, codes, drop, is_some, take, Option, Some, None, Result, Ok, Err}
use Rattle.std.specs.Prelude.{if◌then◌else◌}
use Rattle.std.specs.List.{list_all, list_any, slice_split}
use Rattle.std.specs.Option.{option_map}
use Rattle.pam_codes.specs.Code.{all_codes, ignored, new_authtok_reqd, same_name, success}
use Rattle.pam_codes.specs.Set.{codes_where, is_in}
use Rattle.pam_tables.specs.Returns.{names_code, code_named}
use Rattle.pam_policy.specs.declared.text.error.PolicyFault.{PolicyFault}
use Rattle.pam_policy.specs.declared.text.error.PolicyFault.TheVariants.{BadCode}

-- `failure` is every code but these three
abbrev pub is_failure : ℕ → Bool
is_failure code = not (code == success || (code == new_authtok_reqd || code == ignored))

abbrev pub failures : List ℕ
failures = codes_where is_failure

-- the texts between commas, of which there is at least one
abbrev pub items_of : List ℕ → List (List ℕ)
items_of text = slice_split (λ b. b == 44) text

abbrev pub is_failure_item : List ℕ → Bool
is_failure_item item = same_name (codes "failure") item

-- an item is `failure`, or the name of a code
abbrev pub is_item : List ℕ → Bool
is_item item = is_failure_item item || is_some (code_named item)

-- whether an item names this code
abbrev pub item_names : ℕ → List ℕ → Bool
item_names code item = if is_failure_item item then is_failure code else names_code code item

-- the codes that items name, if each is an item
unfoldable pub codes_of_items : List (List ℕ) → Option (List ℕ)
codes_of_items items = if list_all is_item items then Some (codes_where (λ code. list_any (item_names code) items)) else None

abbrev pub all_but : List ℕ → List ℕ
all_but named = codes_where (λ code. not (is_in code named))

-- the codes that are left, of which there has to be one
abbrev pub some_codes : Option (List ℕ) → Result (List ℕ) PolicyFault
some_codes (Some (code ∷ more)) = Ok (code ∷ more)
some_codes (Some []) = Err BadCode
some_codes None = Err BadCode

-- THE CODES of a word
unfoldable pub codes_in : List ℕ → Result (List ℕ) PolicyFault
codes_in text =
    if same_name (codes "any") text then Ok all_codes
    else if same_name (codes "but:") (take 4 text)
    then some_codes (option_map all_but (codes_of_items (items_of (drop 4 text))))
    else some_codes (codes_of_items (items_of text))
