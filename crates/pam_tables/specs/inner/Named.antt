-- For private contracts and proofs alone: files of named entries.
use Rattle.std.specs.Prelude.{ℕ, List, [], ◌∷◌, ◌++◌, if◌then◌else◌, Option, Some, None, Result, Ok, Err}
use Rattle.std.specs.List.{list_any}
use Rattle.std.specs.Str.{bytes_eq}
use Rattle.pam_tables.specs.declared.error.TableFault.{TableFault}

-- entries with one more, if its name is new
abbrev pub with_entry : {V : Type 0} → List (List ℕ × V) → Option (List ℕ × V) → List (List ℕ × V)
with_entry entries None = entries
with_entry entries (Some entry) = if list_any (λ e. bytes_eq entry.0 e.0) entries then entries else entries ++ entry ∷ []

-- entries with that of one more line
abbrev pub with_line : {V : Type 0} → List (List ℕ × V) → Result (Option (List ℕ × V)) TableFault → Result (List (List ℕ × V)) TableFault
with_line entries (Ok entry) = Ok (with_entry entries entry)
with_line entries (Err fault) = Err fault
