-- All faults of a table of time.conf(5), each line by itself.
use Rattle.std.specs.Prelude.{◌≡◌, ℕ, List, [], ◌∷◌, ◌++◌, Option, Some, None, Result, Ok, Err}
use Rattle.pam_text.specs.Source.{source_fault}
use Rattle.pam_text.specs.Text.{text_lines, text_of}
use Rattle.pam_text.specs.declared.source.SourceFault.{SourceFault}
use Rattle.pam_tables.specs.times.Error.{source_error}
use Rattle.pam_tables.specs.times.Reading.{rule_of, rules_of}
use Rattle.pam_tables.specs.times.Times.{Rule}
use Rattle.pam_tables.specs.declared.times.error.TimeError.{TimeError}
use Rattle.pam_tables.specs.declared.times.error.TimeFault.{TimeFault}

-- the fault of a line, if it has one
abbrev pub line_fault : {X : Type 0} → ℕ → Result X TimeFault → List TimeError
line_fault line (Ok x) = []
line_fault line (Err fault) = record { fault = fault; line = line } ∷ []

-- the faults of numbered lines
unfoldable pub line_faults : List (ℕ × List ℕ) → List TimeError
line_faults [] = []
line_faults (line ∷ lines) = line_fault line.0 (rule_of line.0 line.1) ++ line_faults lines

-- the fault of the bytes as a whole, or else those of the lines
abbrev pub or_faults : Option SourceFault → List TimeError → List TimeError
or_faults None faults = faults
or_faults (Some whole) faults = source_error whole ∷ []

-- THE FAULTS of a table
unfoldable pub time_faults : List ℕ → List TimeError
time_faults bytes = or_faults (source_fault bytes) (line_faults (text_lines (text_of 1 bytes)))

-- LAW: a table is read if and only if it has none, and else the first of them is why not

abbrev pub first_fault : List TimeError → Result (Unit {0}) TimeError
first_fault [] = Ok tt
first_fault (error ∷ errors) = Err error

abbrev pub verdict : Result (List Rule) TimeError → Result (Unit {0}) TimeError
verdict (Ok rules) = Ok tt
verdict (Err error) = Err error

abbrev pub FirstFaultIsTheReadings : Type 0
FirstFaultIsTheReadings = (bytes : List ℕ) → verdict (rules_of bytes) ≡ first_fault (time_faults bytes)
