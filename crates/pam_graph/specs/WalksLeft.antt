-- The value of an iterator over the walks of a graph, in contracts.
use Rattle.std.specs.Prelude.{List}
use Rattle.pam_paths.specs.Paths.{PathValue}

-- the walks that are left, and the walk followed last
pub record WalksLeft : Type 0 where
  pub coming : List PathValue
  pub path : PathValue
