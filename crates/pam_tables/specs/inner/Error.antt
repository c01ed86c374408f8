-- For private contracts and proofs alone: faults of the tables of access.conf(5), time.conf(5) and group(5).
use Rattle.std.specs.Prelude.{◌≡◌, Result, Err}
use Rattle.pam_text.specs.Gives.{Gives as GivesAs}
use Rattle.pam_tables.specs.declared.error.TableFault.{TableFault}
use Rattle.pam_tables.specs.declared.error.TableFault.TheVariants.{Memory}

abbrev pub FailsIn : {Y : Type 0} → TableFault → Result Y TableFault → Type 0
FailsIn Memory read = Unit {0}
FailsIn fault read = read ≡ Err fault

-- a part of a line or its fault, as read says, unless an allocation failed
abbrev pub GivesPart : {X Y : Type 0} → (X → Y) → Result X TableFault → Result Y TableFault → Type 0
GivesPart view result read = GivesAs FailsIn view result read
