-- Faults of facts files.
use Rattle.std.specs.Prelude.{◌≡◌, ℕ, Result, Err}
use Rattle.pam_text.specs.Gives.{Gives as GivesAs}
use Rattle.pam_text.specs.declared.source.SourceFault.{SourceFault}
use Rattle.pam_text.specs.declared.source.SourceFault.TheVariants as source
use Rattle.pam_facts.specs.declared.error.FactsError.{FactsError}
use Rattle.pam_facts.specs.declared.error.FactsFault.{FactsFault}
use Rattle.pam_facts.specs.declared.error.FactsFault.TheVariants.{Memory, NulByte, TooLong}

-- a failed allocation has no line
abbrev pub no_memory : FactsError
no_memory = record { fault = Memory; line = 0 }

-- a fault of a line
abbrev pub error_at : FactsFault → ℕ → FactsError
error_at Memory line = no_memory
error_at fault line = record { fault = fault; line = line }

-- the fault of the bytes as a whole, of which one that is too long has no line
abbrev pub source_error : SourceFault → FactsError
source_error source.TooLong = record { fault = TooLong; line = 0 }
source_error (source.NulByte line) = record { fault = NulByte; line = line }

abbrev pub TellsFault : {Y : Type 0} → FactsFault → FactsError → Result Y FactsError → Type 0
TellsFault Memory error meant = error.line ≡ 0
TellsFault fault error meant = meant ≡ Err error

-- what the bytes of a facts file give, or their fault, unless an allocation failed
abbrev pub Gives : {X Y : Type 0} → (X → Y) → Result X FactsError → Result Y FactsError → Type 0
Gives view result meant = GivesAs (λ (e : FactsError). TellsFault e.fault e) view result meant
