-- Faults of accept files.
use Rattle.std.specs.Prelude.{◌≡◌, ⊤, ℕ, Result, Err}
use Rattle.pam_text.specs.Gives.{Gives as GivesAs}
use Rattle.pam_text.specs.declared.source.SourceFault.TheVariants as source
use Rattle.pam_findings.specs.declared.accepted.error.AcceptError.{AcceptError}
use Rattle.pam_findings.specs.declared.accepted.error.AcceptError.TheVariants.{BadAccept, Memory, Source}

-- the line of a fault. A failed allocation and a file that is too long have none
abbrev pub line_of : AcceptError → ℕ
line_of (BadAccept line) = line
line_of (Source (source.NulByte line)) = line
line_of (Source source.TooLong) = 0
line_of Memory = 0

-- a failed allocation says nothing of the lines
abbrev pub TellsFault : {Y : Type 0} → AcceptError → Result Y AcceptError → Type 0
TellsFault Memory meant = ⊤
TellsFault error meant = meant ≡ Err error

-- what the bytes of an accept file give, or their fault, unless an allocation failed
abbrev pub Gives : {X Y : Type 0} → (X → Y) → Result X AcceptError → Result Y AcceptError → Type 0
Gives view result meant = GivesAs (λ (e : AcceptError). TellsFault e) view result meant
