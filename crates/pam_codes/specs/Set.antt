-- Sets of return codes (pam.conf(5), the values between brackets).
use Rattle.std.specs.Prelude.{◌≡◌, ℕ, Bool, List, filter, ◌==◌}
use Rattle.std.specs.List.{list_any}
use Rattle.pam_codes.specs.Code.{all_codes}

-- the codes that pass a test, in order
abbrev pub codes_where : (ℕ → Bool) → List ℕ
codes_where test = filter test all_codes

-- whether the code is among these
abbrev pub is_in : ℕ → List ℕ → Bool
is_in code codes = list_any (λ c. c == code) codes

-- a set of codes: in order, each at most once
abbrev pub IsCodeSet : List ℕ → Type 0
IsCodeSet codes = codes ≡ codes_where (λ code. is_in code codes)
