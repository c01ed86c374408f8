-- Facts files: the rows of their lines, after those of the program's table.
use Rattle.std.specs.Prelude.{ℕ, List, [], ◌∷◌, ◌++◌, Option, Some, None, Result, Ok, Err}
use Rattle.std.specs.List.{filter_map}
use Rattle.std.specs.Option.{option_map_or}
use Rattle.pam_tables.specs.Lines.{lines_from}
use Rattle.pam_text.specs.Source.{source_fault}
use Rattle.pam_facts.specs.Error.{error_at, source_error}
use Rattle.pam_facts.specs.Rows.{Row, row_of}
use Rattle.pam_facts.specs.Table.{table}
use Rattle.pam_facts.specs.declared.error.FactsError.{FactsError}
use Rattle.pam_facts.specs.declared.error.FactsFault.{FactsFault}

-- the row of a line, if it has one, before those of the other lines; its fault comes before theirs
abbrev pub onto_rows : ℕ → Result (Option Row) FactsFault → Result (List Row) FactsError → Result (List Row) FactsError
onto_rows line (Err fault) others = Err (error_at fault line)
onto_rows line (Ok None) others = others
onto_rows line (Ok (Some row)) (Ok rows) = Ok (row ∷ rows)
onto_rows line (Ok (Some row)) (Err e) = Err e

-- the rows of numbered lines, or the first fault, with its line
unfoldable pub rows_from : List (ℕ × List ℕ) → Result (List Row) FactsError
rows_from [] = Ok []
rows_from (line ∷ lines) = onto_rows line.0 (row_of line.1) (rows_from lines)

-- the rows of a facts file, or its first fault
unfoldable pub rows_of : List ℕ → Result (List Row) FactsError
rows_of bytes = option_map_or (λ fault. Err (source_error fault)) (source_fault bytes) (rows_from (lines_from 1 bytes))

-- the row of a line of the table
abbrev pub row_if_any : Result (Option Row) FactsFault → Option Row
row_if_any (Ok row) = row
row_if_any (Err fault) = None

-- the rows of lines, of which none has a fault where this is said of the program's table
abbrev pub rows_in : List (List ℕ) → List Row
rows_in lines = filter_map (λ line. row_if_any (row_of line)) lines

-- the rows of the program's own table
unfoldable pub table_rows : List Row
table_rows = rows_in table

-- rows, and then those of a file
abbrev pub after_rows : List Row → Result (List Row) FactsError → Result (List Row) FactsError
after_rows first (Ok rows) = Ok (first ++ rows)
after_rows first (Err e) = Err e

-- THE ROWS that are known: those of the program's table, and then those of a facts file
unfoldable pub known_rows : List ℕ → Result (List Row) FactsError
known_rows bytes = after_rows table_rows (rows_of bytes)
