-- For private contracts and proofs alone: faults of policy files.
use Rattle.std.specs.Prelude.{◌≡◌, Result, Err}
use Rattle.pam_text.specs.Gives.{Gives as GivesAs}
use Rattle.pam_policy.specs.declared.text.error.PolicyFault.{PolicyFault}
use Rattle.pam_policy.specs.declared.text.error.PolicyFault.TheVariants.{Memory}

abbrev pub FailsIn : {Y : Type 0} → PolicyFault → Result Y PolicyFault → Type 0
FailsIn Memory read = Unit {0}
FailsIn fault read = read ≡ Err fault

-- a part of a line or its fault, unless an allocation failed
abbrev pub GivesPart : {X Y : Type 0} → (X → Y) → Result X PolicyFault → Result Y PolicyFault → Type 0
GivesPart view result read = GivesAs FailsIn view result read
