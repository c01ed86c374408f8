-- For private contracts and proofs alone: the lines of a table, and the parts of a line.
use Rattle.std.specs.Prelude.{ℕ, List, Result, Ok}
use Rattle.pam_tables.specs.declared.error.TableFault.{TableFault}
use Rattle.pam_tables.specs.Lines.{checked}

-- whether the bytes as a whole have no fault
abbrev pub sound : List ℕ → Result (Unit {0}) (TableFault × ℕ)
sound bytes = checked bytes (Ok tt)
