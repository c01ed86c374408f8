-- For private contracts and proofs alone: what the error of a reading call tells of its definition.
use Rattle.std.specs.Prelude.{◌≡◌, Result, Err}
use Rattle.pam_conf.specs.declared.error.FaultKind.{FaultKind}
use Rattle.pam_conf.specs.declared.error.FaultKind.TheVariants as faults

-- the fault of one line, without its number
abbrev pub KindTells : {Y : Type 0} → FaultKind → Result Y FaultKind → Type 0
KindTells faults.Memory meant = Unit {0}
KindTells kind meant = meant ≡ Err kind
