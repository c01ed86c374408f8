-- For private contracts and proofs alone: a place where a file without a byte is.
use Rattle.std.specs.Prelude.{⊤, Bool, true, false, []}
use Rattle.pam_cli.specs.System.{PlaceText, Told}
use Rattle.pam_cli.specs.System as system

-- the system says that a file without a byte is there, unless it cannot be read
abbrev pub IsEmptyUnless : Told → PlaceText → Bool → Type 0
IsEmptyUnless told place true = ⊤
IsEmptyUnless told place false = told.held place (system.bytes [])
