-- Files of named entries, of which the first of each name counts: group(5), returns files.
use Rattle.std.specs.Prelude.{ℕ, List, [], ◌∷◌, ◌++◌, if◌then◌else◌, Result, Ok, Err}
use Rattle.std.specs.List.{list_any}
use Rattle.std.specs.Str.{bytes_eq}
use Rattle.pam_tables.specs.declared.error.TableFault.{TableFault}

-- the first entry of each name, except these names
abbrev pub first_of_each : {V : Type 0} → List (List ℕ) → List (List ℕ × V) → List (List ℕ × V)
first_of_each names [] = []
first_of_each names (entry ∷ entries) =
    if list_any (λ name. bytes_eq entry.0 name) names then first_of_each names entries
    else entry ∷ first_of_each (names ++ entry.0 ∷ []) entries

abbrev pub first_of_each_read : {V : Type 0} → Result (List (List ℕ × V)) (TableFault × ℕ) → Result (List (List ℕ × V)) (TableFault × ℕ)
first_of_each_read (Ok entries) = Ok (first_of_each [] entries)
first_of_each_read (Err e) = Err e
