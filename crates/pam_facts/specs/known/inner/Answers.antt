-- For private contracts and proofs alone: the code of a module that reads a table.
use Rattle.std.specs.Prelude.{◌≡◌, Result, Err}
use Rattle.pam_facts.specs.declared.known.error.KnownError.{KnownError}
use Rattle.pam_facts.specs.known.Answers.{IsFault}

-- an error is that of the definition, unless an allocation failed
abbrev pub TellsError : {Y : Type 0} → KnownError → Result Y KnownError → Type 0
TellsError e told = IsFault e (told ≡ Err e)
