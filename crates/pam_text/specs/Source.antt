-- The limits of all files.
use Rattle.std.specs.Prelude.{ℕ, ◌+◌, ◌==◌, List, length, take, position, count_by, nat_lt, if◌then◌else◌, Option, Some}
use Rattle.std.specs.Option.{option_map}
use Rattle.pam_text.specs.declared.source.TheConstants.{MAX_FILE_BYTES}
use Rattle.pam_text.specs.declared.source.SourceFault.{SourceFault}
use Rattle.pam_text.specs.declared.source.SourceFault.TheVariants.{TooLong, NulByte}

-- the fault of the bytes as a whole: too many, or a NUL byte, whose line is one more than the line feeds before it
unfoldable pub source_fault : List ℕ → Option SourceFault
source_fault bytes =
    if nat_lt MAX_FILE_BYTES (length bytes) then Some TooLong
    else option_map (λ i. NulByte (count_by (λ b. b == 10) (take i bytes) + 1)) (position (λ b. b == 0) bytes)
