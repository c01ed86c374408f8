-- The value of an explorer of the paths through a stack, in contracts.
use Rattle.std.specs.Prelude.{ℕ, List}
use Rattle.pam_paths.specs.Paths.{PathValue}

-- the paths left, the path followed last, the number of steps made, and the number of modules of the program
pub record Exploration : Type 0 where
  pub coming : List PathValue
  pub path : PathValue
  pub work : ℕ
  pub modules : ℕ
