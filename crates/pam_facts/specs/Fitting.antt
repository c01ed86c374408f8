-- The row that counts for a module.
use Rattle.std.specs.Prelude.{ℕ, ◌&&◌, Bool, false, nat_eq, List, [], ◌∷◌, codes, if◌then◌else◌, is_none}
use Rattle.std.specs.List.{ends_with, list_all, list_any, starts_with}
use Rattle.std.specs.Option.{option_map_or}
use Rattle.std.specs.Str.{bytes_eq}
use Rattle.pam_facts.specs.Facts.{unknown}
use Rattle.pam_facts.specs.Options.{arguments_read}
use Rattle.pam_facts.specs.Paths.{module_name}
use Rattle.pam_facts.specs.Rows.{Row}
use Rattle.pam_facts.specs.declared.row.Fact.{Fact}

-- an argument of a rule is the one that a row wants: the same, or one that begins with it, if it ends in `=`
abbrev pub argument_fits : List ℕ → List ℕ → Bool
argument_fits wanted argument = if ends_with nat_eq wanted (codes "=") then starts_with nat_eq argument wanted else bytes_eq argument wanted

-- a row with a class fits a module of its name that has each of its arguments
abbrev pub fits : List ℕ → List (List ℕ) → Row → Bool
fits name arguments row =
    is_none row.knows && (bytes_eq row.name name && list_all (λ wanted. list_any (argument_fits wanted) arguments) row.arguments)

-- the fact of the last row that fits, or else this one
abbrev pub last_fact : (Row → Bool) → Fact → List Row → Fact
last_fact fits_module fact [] = fact
last_fact fits_module fact (row ∷ rows) = last_fact fits_module (if fits_module row then row.fact else fact) rows

-- WHAT IS KNOWN of the module at a path, for the arguments of its rule that it reads
abbrev pub fact_of : List Row → List ℕ → List (List ℕ) → Fact
fact_of rows path arguments = option_map_or (λ name. last_fact (fits name (arguments_read name arguments)) unknown rows) (module_name path) unknown

-- WHETHER ANYTHING IS KNOWN of it: some row fits
abbrev pub has_row : List Row → List ℕ → List (List ℕ) → Bool
has_row rows path arguments = option_map_or (λ name. list_any (fits name (arguments_read name arguments)) rows) (module_name path) false
