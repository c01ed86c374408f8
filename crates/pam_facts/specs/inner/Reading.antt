-- For private contracts and proofs alone: facts files.
use Rattle.std.specs.Prelude.{List, [], ◌∷◌, ◌++◌, Option, Some, None, Result, Ok, Err}
use Rattle.pam_facts.specs.Error.{no_memory}
use Rattle.pam_facts.specs.Rows.{Row}
use Rattle.pam_facts.specs.declared.error.FactsError.{FactsError}
use Rattle.pam_facts.specs.declared.error.FactsFault.{FactsFault}
use Rattle.pam_facts.specs.declared.error.FactsFault.TheVariants.{Memory}

-- rows, and that of one more line
abbrev pub with_row : List Row → Result (Option Row) FactsFault → Result (List Row) FactsFault
with_row rows (Ok None) = Ok rows
with_row rows (Ok (Some row)) = Ok (rows ++ row ∷ [])
with_row rows (Err fault) = Err fault

-- an error only where an allocation failed
abbrev pub unless_memory : FactsFault → Result (Unit {0}) FactsError
unless_memory Memory = Err no_memory
unless_memory fault = Ok tt
