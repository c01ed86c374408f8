-- For private contracts and proofs alone: candidates that no service reads.
use Rattle.std.specs.Prelude.{◌≡◌, ⊤, ℕ, List, Option, is_some, true}
use Rattle.pam_report.specs.declared.fault.Fault.{Fault}
use Rattle.pam_report.specs.declared.fault.Fault.TheVariants as faults

-- a candidate is read by no service, or an allocation failed
abbrev pub IsUnused : Option (List ℕ) → Fault → Type 0
IsUnused unused faults.UnusedCandidate = is_some unused ≡ true
IsUnused unused faults.Memory = ⊤
IsUnused unused fault = ⊥
