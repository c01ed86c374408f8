-- For private contracts and proofs alone: the lengths of the names of codes.
use Rattle.std.specs.Prelude.{ℕ, Bool, [], ◌==◌, length, slice_index_or}
use Rattle.pam_codes.specs.Code.{code_names}

-- whether the name of a code has this many bytes
abbrev pub has_len : ℕ → ℕ → Bool
has_len len code = length (slice_index_or code_names code []) == len
