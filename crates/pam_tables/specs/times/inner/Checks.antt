-- For private contracts and proofs alone: the faults of a line of time.conf(5), without its rule, and its last three fields.
use Rattle.std.specs.Prelude.{Bool, true, false, ℕ, List, Option, Some, None, Result, Ok, Err}
use Rattle.pam_tables.specs.times.Entry.{entry_of}
use Rattle.pam_tables.specs.times.Reading.{FieldTexts, and_then, entry_or_fault, name_of, names_of, semicolon_cut, times_of}
use Rattle.pam_tables.specs.times.Times.{Rule}
use Rattle.pam_tables.specs.declared.times.error.TimeFault.{TimeFault}
use Rattle.pam_tables.specs.declared.times.reading.Field.{Field}
use Rattle.pam_tables.specs.declared.times.reading.Field.TheVariants.{Services, Terminals, Users, Times}

-- whether there is a value, or its fault
abbrev pub checked : {A : Type 0} → Result A TimeFault → Result (Unit {0}) TimeFault
checked (Ok x) = Ok tt
checked (Err fault) = Err fault

abbrev pub name_checked : Field → List ℕ → Result (Unit {0}) TimeFault
name_checked field token = checked (name_of field token)

abbrev pub entry_checked : List ℕ → Result (Unit {0}) TimeFault
entry_checked token = checked (entry_or_fault (entry_of token))

abbrev pub token_checked : Field → List ℕ → Result (Unit {0}) TimeFault
token_checked Times token = entry_checked token
token_checked field token = name_checked field token

abbrev pub list_checked : Field → List ℕ → Result (Unit {0}) TimeFault
list_checked Times text = checked (times_of text)
list_checked field text = checked (names_of field text)

-- the first of two faults
abbrev pub first_fault : Result (Unit {0}) TimeFault → Result (Unit {0}) TimeFault → Result (Unit {0}) TimeFault
first_fault (Ok u) other = other
first_fault (Err fault) other = Err fault

-- the first fault of the lists of a line
abbrev pub fields_checked : FieldTexts → Result (Unit {0}) TimeFault
fields_checked f =
    first_fault (list_checked Services f.services) (first_fault (list_checked Terminals f.terminals)
    (first_fault (list_checked Users f.users) (list_checked Times f.times)))

-- whether a line has a rule, or its fault
abbrev pub line_checked : Result (Option Rule) TimeFault → Result Bool TimeFault
line_checked (Ok None) = Ok false
line_checked (Ok (Some rule)) = Ok true
line_checked (Err fault) = Err fault

-- the fields of a line with these services and this text after them
abbrev pub cut_others : List ℕ → List ℕ → Option FieldTexts
cut_others services rest =
    and_then (semicolon_cut rest) (λ b. and_then (semicolon_cut b.1) (λ c.
    Some (record { services = services; terminals = b.0; users = c.0; times = c.1 })))
