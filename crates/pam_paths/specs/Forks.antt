-- The forks of a run, at which a module is asked, and the choices there.
use Rattle.std.specs.Prelude.{◌≡◌, ℕ, ◌<◌, true, List, Some, map}
use Rattle.pam_dispatch.specs.declared.flat_item.FlatItem.{FlatItem}
use Rattle.pam_dispatch.specs.Flat.{IsPlaceOf, modules_of, rest_of}
use Rattle.pam_dispatch.specs.Runs.{AsksRise, after_answer, asked_module, next_ask}
use Rattle.pam_paths.specs.declared.direction.Direction.TheVariants.{Forward}
use Rattle.pam_paths.specs.declared.fork.Choice.{Choice}
use Rattle.pam_paths.specs.declared.fork.Fork.{Fork}
use Rattle.pam_paths.specs.Classes.{class_of}
use Rattle.pam_paths.specs.Computed.{after_step, listing}
use Rattle.pam_paths.specs.Frames.{AreClasses, ahead_of, offered_at}
use Rattle.pam_paths.specs.Listing.{Allowance}
use Rattle.pam_paths.specs.Paths.{PathValue}

-- a fork of the program, with the classes that the knowledge allows
pub record IsFork (allows : Allowance) (program : List FlatItem) (fork : Fork) : Type 0 where
  pub place : IsPlaceOf program fork.place
  pub asking : asked_module (rest_of program fork.place) ≡ Some fork.module_number
  pub rise : AsksRise 0 (modules_of program) (rest_of program fork.place)
  pub offered : fork.classes.offered ≡ offered_at allows (rest_of program fork.place)
  pub classes : AreClasses (next_ask (rest_of program fork.place)) fork.classes

-- the paths from a fork on that begin with a class whose least code is at or after a bound
abbrev pub paths_from : Allowance → List FlatItem → Fork → ℕ → List PathValue
paths_from allows program fork bound = ahead_of Forward allows (rest_of program fork.place) bound

-- the paths that begin with a choice of the module with this number
abbrev pub paths_by : Allowance → List FlatItem → ℕ → Choice → List PathValue
paths_by allows program number choice =
    map (after_step (record { module_number = number; class = choice.class })) (listing allows (rest_of program choice.place))

-- a choice has the class of an allowed answer, and leads by it to a place of the program, from which on later modules are asked
pub record IsChoice (allows : Allowance) (program : List FlatItem) (fork : Fork) (choice : Choice) : Type 0 where
  pub place : IsPlaceOf program choice.place
  pub rise : AsksRise fork.module_number (modules_of program) (rest_of program choice.place)
  pub code : ℕ
  pub is_code : code < 31
  pub allowed : allows fork.module_number code ≡ true
  pub rest : rest_of program choice.place ≡ after_answer (rest_of program fork.place) code
  pub class : choice.class ≡ class_of (next_ask (rest_of program fork.place)) code
