-- The bits of a set of return codes, and the codes of bits. Contracts see a set as the list of its codes.
use Rattle.std.proofs.Common.{◌==◌, ℕ, List}
use Rattle.std.specs.Int.{bit_at}
use Rattle.pam_codes.specs.Set.{codes_where}

-- the codes whose bit is set
unfoldable pub codes_of_bits : ℕ → List ℕ
codes_of_bits bits = codes_where (λ code. bit_at bits code == 1)
