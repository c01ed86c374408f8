-- For private contracts and proofs alone: the rules of a file.
use Rattle.std.specs.Prelude.{ℕ}
use Rattle.pam_conf.specs.declared.error.FaultKind.{FaultKind}
use Rattle.pam_conf.specs.declared.error.FaultKind.TheVariants as faults
use Rattle.pam_conf.specs.declared.error.RuleFault.{RuleFault}

-- a fault with its line; a failed allocation has line 0
abbrev pub fault_at : ℕ → FaultKind → RuleFault
fault_at line faults.Memory = record { kind = faults.Memory; line = 0 }
fault_at line kind = record { kind = kind; line = line }
