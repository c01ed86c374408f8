-- For private contracts and proofs alone: addresses and networks.
use Rattle.std.specs.Prelude.{ℕ, ◌+◌, List, length, nat_le, if◌then◌else◌, Option, Some, None}
use Rattle.pam_tables.specs.Address.{number_from}

-- the number and the count of pieces, after more pieces are appended. There are at most eight
abbrev pub more_pieces : ℕ → ℕ → Option (List ℕ) → Option (ℕ × ℕ)
more_pieces number count None = None
more_pieces number count (Some pieces) =
    if nat_le (count + length pieces) 8 then Some (number_from 65536 number pieces, count + length pieces) else None
