-- For private contracts and proofs alone: the work that wants memory.
use Rattle.std.specs.Prelude.{◌≡◌, true, Result, IfErr}
use Rattle.pam_report.specs.declared.fault.Fault.{Fault}
use Rattle.pam_report.specs.Memory.{Wants, IsWanting}

-- if it is a failed allocation, it is of what is made
abbrev pub WantsWork : {A : Type 0} → Result A Fault → Type 0
WantsWork result = (wants : Wants) → wants.work ≡ true → IfErr result (IsWanting wants)
