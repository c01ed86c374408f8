-- For private contracts and proofs alone: the lines of a time.conf(5) table that have a rule, one after another in a text.
use Rattle.std.specs.Prelude.{ℕ, ◌++◌, ◌&&◌, Bool, false, not, List, [], ◌∷◌, Option, Some, None, Result, Ok, Err}
use Rattle.std.specs.Option.{option_map_or}
use Rattle.pam_tables.specs.times.Entry.{entry_of, holds}
use Rattle.pam_tables.specs.times.Logic.{items_of}
use Rattle.pam_tables.specs.times.inner.Logic.{list_value}
use Rattle.pam_tables.specs.times.Login.{LoginText, without_dev}
use Rattle.pam_tables.specs.times.Pattern.{matches}
use Rattle.pam_tables.specs.times.Reading.{FieldTexts}
use Rattle.pam_tables.specs.times.Times.{Rule}
use Rattle.pam_tables.specs.declared.times.error.TimeError.{TimeError}
use Rattle.pam_tables.specs.declared.times.error.TimeFault.{TimeFault}

-- rules with that of one more line
abbrev pub with_line : List Rule → ℕ → Result (Option Rule) TimeFault → Result (List Rule) TimeError
with_line rules number (Ok None) = Ok rules
with_line rules number (Ok (Some rule)) = Ok (rules ++ rule ∷ [])
with_line rules number (Err fault) = Err (record { fault = fault; line = number })

-- ---- the fields of a line, read for a login

abbrev pub name_holds : List ℕ → List ℕ → Bool
name_holds text word = list_value (λ token. matches token word) (items_of text)

abbrev pub time_holds : List ℕ → ℕ → ℕ → Bool
time_holds text day minute = list_value (λ token. option_map_or (λ entry. holds entry day minute) (entry_of token) false) (items_of text)

abbrev pub fields_deny : FieldTexts → LoginText → ℕ → ℕ → Bool
fields_deny f login day minute =
    (name_holds f.services login.service && (name_holds f.terminals (without_dev login.tty) && name_holds f.users login.user))
    && not (time_holds f.times day minute)

-- the same, for a service that matches
abbrev pub others_deny : FieldTexts → LoginText → ℕ → ℕ → Bool
others_deny f login day minute =
    (name_holds f.terminals (without_dev login.tty) && name_holds f.users login.user) && not (time_holds f.times day minute)
