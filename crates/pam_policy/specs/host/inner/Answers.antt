-- For private contracts and proofs alone: the fault of a returns file.
use Rattle.std.specs.Prelude.{◌≡◌, Bool}
use Rattle.pam_facts.specs.known.Reads.{IsOfRead, TablesRead}
use Rattle.pam_facts.specs.declared.known.error.KnownError.{KnownError}

-- a fault of the returns file, which is read where it is given
abbrev pub IsOfReturns : Bool → KnownError → Type 0
IsOfReturns given error = (read : TablesRead) → read.returns ≡ given → IsOfRead read error
