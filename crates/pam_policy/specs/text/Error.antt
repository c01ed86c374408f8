-- Faults of policy files.
use Rattle.std.specs.Prelude.{◌≡◌, ℕ, Result, Ok, Err}
use Rattle.pam_text.specs.Gives.{Gives as GivesAs}
use Rattle.pam_text.specs.declared.source.SourceFault.{SourceFault}
use Rattle.pam_text.specs.declared.source.SourceFault.TheVariants as source
use Rattle.pam_policy.specs.declared.text.error.PolicyError.{PolicyError}
use Rattle.pam_policy.specs.declared.text.error.PolicyFault.{PolicyFault}
use Rattle.pam_policy.specs.declared.text.error.PolicyFault.TheVariants.{Memory, NulByte, TableTooLong}

-- a failed allocation has no line
abbrev pub no_memory : PolicyError
no_memory = record { fault = Memory; line = 0 }

-- a fault of a line
abbrev pub error_at : PolicyFault → ℕ → PolicyError
error_at Memory line = no_memory
error_at fault line = record { fault = fault; line = line }

-- the fault of the bytes as a whole, of which one that is too long has no line
abbrev pub source_error : SourceFault → PolicyError
source_error source.TooLong = record { fault = TableTooLong; line = 0 }
source_error (source.NulByte line) = record { fault = NulByte; line = line }

abbrev pub TellsFault : {Y : Type 0} → PolicyFault → PolicyError → Result Y PolicyError → Type 0
TellsFault Memory error meant = error.line ≡ 0
TellsFault fault error meant = meant ≡ Err error

-- what the bytes of a policy file give, or their fault, unless an allocation failed
abbrev pub Gives : {X Y : Type 0} → (X → Y) → Result X PolicyError → Result Y PolicyError → Type 0
Gives view result meant = GivesAs (λ (e : PolicyError). TellsFault e.fault e) view result meant

-- ---- steps of reading: the words of a line are judged from the left, and the first fault counts

infixl 10 ◌>>=◌
abbrev pub ◌>>=◌ : {A B : Type 0} → Result A PolicyFault → (A → Result B PolicyFault) → Result B PolicyFault
(Ok x) >>= f = f x
(Err fault) >>= f = Err fault
