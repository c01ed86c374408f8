-- What is common to all faults of a table and to the first, which the reading of the table gives.
use Rattle.std.specs.Prelude.{◌≡◌, ℕ, List, [], ◌∷◌, Result, Ok, Err}
use Rattle.pam_tables.specs.Access.{table_of}
use Rattle.pam_tables.specs.Error.{verdict}
use Rattle.pam_tables.specs.Faults.{access_faults, group_faults}
use Rattle.pam_tables.specs.Groups.{groups_of}
use Rattle.pam_tables.specs.Options.{Options}
use Rattle.pam_tables.specs.declared.error.TableError.{TableError}
use Rattle.pam_tables.specs.declared.error.TableFault.{TableFault}

-- the first of some faults, if there is one
abbrev pub first_fault : List TableError → Result (Unit {0}) (TableFault × ℕ)
first_fault [] = Ok tt
first_fault (error ∷ errors) = Err (error.fault, error.line)

-- a table is read if and only if it has none, and else the first of them is why not
abbrev pub FirstAccessFaultIsTheReadings : Type 0
FirstAccessFaultIsTheReadings = (options : Options) (bytes : List ℕ) → verdict (table_of options bytes) ≡ first_fault (access_faults options bytes)

abbrev pub FirstGroupFaultIsTheReadings : Type 0
FirstGroupFaultIsTheReadings = (bytes : List ℕ) → verdict (groups_of bytes) ≡ first_fault (group_faults bytes)
