-- Faults of the tables of time.conf(5).
use Rattle.std.specs.Prelude.{◌≡◌, Result, Err}
use Rattle.pam_text.specs.declared.source.SourceFault.{SourceFault}
use Rattle.pam_text.specs.declared.source.SourceFault.TheVariants as source
use Rattle.pam_tables.specs.declared.times.error.TimeError.{TimeError}
use Rattle.pam_tables.specs.declared.times.error.TimeFault.{TimeFault}
use Rattle.pam_tables.specs.declared.times.error.TimeFault.TheVariants.{NulByte, TooLong, Memory}

-- a failed allocation has no line
abbrev pub no_memory : TimeError
no_memory = record { fault = Memory; line = 0 }

-- the fault of the bytes as a whole, of which one that is too long has no line
abbrev pub source_error : SourceFault → TimeError
source_error source.TooLong = record { fault = TooLong; line = 0 }
source_error (source.NulByte line) = record { fault = NulByte; line = line }

abbrev pub TellsFault : {Y : Type 0} → TimeFault → TimeError → Result Y TimeError → Type 0
TellsFault Memory error meant = error.line ≡ 0
TellsFault fault error meant = meant ≡ Err error

-- an error is that of the definition, unless an allocation failed
abbrev pub Tells : {Y : Type 0} → TimeError → Result Y TimeError → Type 0
Tells error meant = TellsFault error.fault error meant
