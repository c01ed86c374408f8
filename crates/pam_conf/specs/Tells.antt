-- What the error of a reading call tells of its definition: that the definition gives this fault; or, where allocation
-- failed, nothing of the definition. Such an error has no place.
use Rattle.std.specs.Prelude.{◌≡◌, None, Result, Err}
use Rattle.pam_conf.specs.declared.conf_error.ConfError.{ConfError}
use Rattle.pam_conf.specs.declared.error.FaultKind.{FaultKind}
use Rattle.pam_conf.specs.declared.error.FaultKind.TheVariants as faults
use Rattle.pam_conf.specs.declared.error.RuleFault.{RuleFault}

-- the fault of a file, of this kind; a failed allocation has line 0
abbrev pub FailsAs : {Y : Type 0} → RuleFault → FaultKind → Result Y RuleFault → Type 0
FailsAs fault faults.Memory meant = fault.line ≡ 0
FailsAs fault kind meant = meant ≡ Err fault

abbrev pub FaultTells : {Y : Type 0} → RuleFault → Result Y RuleFault → Type 0
FaultTells fault meant = FailsAs fault fault.kind meant

-- the error of a service tells this fact, by its kind; a failed allocation has no file and line 0
abbrev pub UnlessMemory : ConfError → FaultKind → Type 0 → Type 0
UnlessMemory error faults.Memory fact = error ≡ record { kind = faults.Memory; at = None; line = 0 }
UnlessMemory error kind fact = fact

abbrev pub ErrorTells : {Y : Type 0} → ConfError → Result Y ConfError → Type 0
ErrorTells error meant = UnlessMemory error error.kind (meant ≡ Err error)
