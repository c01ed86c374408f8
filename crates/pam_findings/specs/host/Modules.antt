-- What is known of the modules of a host.
use Rattle.std.specs.Prelude.{ℕ, List, Option}
use Rattle.pam_facts.specs.Rows.{Row}

-- facts of modules, and as rules write them the paths at which one is there, and the arguments that name a file which is there; none if
-- that is not known
pub record Modules : Type 0 where
  pub facts : List Row
  pub there : Option (List (List ℕ))
  pub files : Option (List (List ℕ))
