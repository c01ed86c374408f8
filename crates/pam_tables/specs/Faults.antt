-- All faults of a table, each line by itself: access.conf(5), group(5).
use Rattle.std.specs.Prelude.{ℕ, List, [], ◌∷◌, ◌++◌, Option, Some, None, Result, Ok, Err}
use Rattle.pam_tables.specs.Access.{access_line}
use Rattle.pam_tables.specs.Groups.{Group, group_at}
use Rattle.pam_tables.specs.Lines.{fault_of_bytes, lines_from}
use Rattle.pam_tables.specs.Options.{Options}
use Rattle.pam_tables.specs.declared.error.Table.{Table}
use Rattle.pam_tables.specs.declared.error.Table.TheVariants as tables
use Rattle.pam_tables.specs.declared.error.TableError.{TableError}
use Rattle.pam_tables.specs.declared.error.TableFault.{TableFault}

-- the fault of a line, if it has one
abbrev pub line_fault : {X : Type 0} → Table → ℕ → Result X TableFault → List TableError
line_fault table line (Ok x) = []
line_fault table line (Err fault) = record { table = table; fault = fault; line = line } ∷ []

-- the faults of numbered lines
unfoldable pub line_faults : {A : Type 0} → Table → (ℕ → List ℕ → Result (Option A) TableFault) → List (ℕ × List ℕ) → List TableError
line_faults table read [] = []
line_faults table read (line ∷ lines) = line_fault table line.0 (read line.0 line.1) ++ line_faults table read lines

-- the fault of the bytes as a whole, or else those of the lines
abbrev pub or_faults : Table → Option (TableFault × ℕ) → List TableError → List TableError
or_faults table None faults = faults
or_faults table (Some whole) faults = record { table = table; fault = whole.0; line = whole.1 } ∷ []

-- THE FAULTS of an access table
unfoldable pub access_faults : Options → List ℕ → List TableError
access_faults options bytes =
    or_faults tables.Access (fault_of_bytes bytes)
    (line_faults tables.Access (access_line options.field_separators options.list_separators) (lines_from 1 bytes))

-- the group of a line, whatever its number
abbrev pub group_line : ℕ → List ℕ → Result (Option Group) TableFault
group_line number line = group_at line

-- THE FAULTS of a group file
unfoldable pub group_faults : List ℕ → List TableError
group_faults bytes = or_faults tables.Group (fault_of_bytes bytes) (line_faults tables.Group group_line (lines_from 1 bytes))
