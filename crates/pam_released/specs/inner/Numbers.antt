-- For private contracts and proofs alone: the value of digits, as the code counts it.
use Rattle.std.specs.Prelude.{ℕ, nat_lt, List, if◌then◌else◌}
use Rattle.pam_codes.specs.Action.{decimal_value}

-- the value of digits, or 2 ^ 32 where it is more
abbrev pub value_or_more : List ℕ → ℕ
value_or_more digits = if nat_lt 4294967296 (decimal_value digits) then 4294967296 else decimal_value digits
