-- The end of a path on which the answers no longer matter: pam.conf(5), DESCRIPTION.
use Rattle.std.specs.Prelude.{◌≡◌, ℕ, ◌+◌, List, [], ◌∷◌, length}
use Rattle.std.proofs.Common.{zero, suc}
use Rattle.pam_codes.specs.Code.{all_codes}
use Rattle.pam_paths.specs.Paths.{StepValue}

-- the steps of `count` modules, numbered from `first` on, each with every code
unfoldable pub tail_from : ℕ → ℕ → List StepValue
tail_from first zero = []
tail_from first (suc count) = record { module_number = first; class = all_codes } ∷ tail_from (first + 1) count

-- steps of modules that are numbered one after another, each with every code
abbrev pub IsTail : List StepValue → Type 0
IsTail steps = (first : ℕ) × (steps ≡ tail_from first (length steps))
