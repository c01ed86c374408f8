-- For private contracts and proofs alone: faults of the tables of time.conf(5).
use Rattle.std.specs.Prelude.{ℕ}
use Rattle.pam_tables.specs.declared.times.error.TimeError.{TimeError}
use Rattle.pam_tables.specs.declared.times.error.TimeFault.{TimeFault}
use Rattle.pam_tables.specs.declared.times.error.TimeFault.TheVariants.{Memory}
use Rattle.pam_tables.specs.times.Error.{no_memory}

-- a fault of a line
abbrev pub error_at : TimeFault → ℕ → TimeError
error_at Memory line = no_memory
error_at fault line = record { fault = fault; line = line }
