-- For private contracts and proofs alone: faults of facts files.
use Rattle.std.specs.Prelude.{◌≡◌, Result, Err}
use Rattle.pam_text.specs.Gives.{Gives as GivesAs}
use Rattle.pam_facts.specs.declared.error.FactsFault.{FactsFault}
use Rattle.pam_facts.specs.declared.error.FactsFault.TheVariants.{Memory}

abbrev pub FailsIn : {Y : Type 0} → FactsFault → Result Y FactsFault → Type 0
FailsIn Memory read = Unit {0}
FailsIn fault read = read ≡ Err fault

-- a part of a file or its fault, unless an allocation failed
abbrev pub GivesPart : {X Y : Type 0} → (X → Y) → Result X FactsFault → Result Y FactsFault → Type 0
GivesPart view result read = GivesAs FailsIn view result read
