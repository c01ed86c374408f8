-- The part of a listing that is left, by the frames of the path that an explorer returned last.
use Rattle.std.specs.Prelude.{◌≡◌, ℕ, Bool, true, false, ◌-◌, ◌<◌, List, [], ◌∷◌, ◌++◌, map, reverse}
use Rattle.std.specs.List.{range_with_len}
use Rattle.pam_codes.specs.Set.{codes_where, is_in}
use Rattle.pam_dispatch.specs.declared.flat_item.FlatItem.{FlatItem}
use Rattle.pam_dispatch.specs.declared.step.Outcome.{Outcome}
use Rattle.pam_dispatch.specs.Flat.{rest_of, runs_of}
use Rattle.pam_dispatch.specs.Runs.{Ask, Runs, ends, asks, next_ask}
use Rattle.pam_paths.specs.declared.classes.Classes.{Classes}
use Rattle.pam_paths.specs.declared.direction.Direction.{Direction}
use Rattle.pam_paths.specs.declared.direction.Direction.TheVariants.{Forward, Backward}
use Rattle.pam_paths.specs.declared.frames.Frame.{Frame}
use Rattle.pam_paths.specs.Classes.{class_of}
use Rattle.pam_paths.specs.Computed.{after_step, branches, is_offered, listing}
use Rattle.pam_paths.specs.Directions.{ordered, past}
use Rattle.pam_paths.specs.Listing.{Allowance}
use Rattle.pam_paths.specs.Paths.{PathValue, StepValue}

-- the paths that begin at a module with codes ahead of a bound
abbrev pub branches_in : Direction → Allowance → Ask → (Outcome → List PathValue) → ℕ → List PathValue
branches_in Forward allows ask below bound = branches allows ask below (range_with_len bound (31 - bound))
branches_in Backward allows ask below bound = reverse (branches allows ask below (range_with_len 0 bound))

unfoldable pub ahead_of : Direction → Allowance → Runs → ℕ → List PathValue
ahead_of direction allows (ends s) bound = []
ahead_of direction allows (asks ask next) bound = branches_in direction allows ask (λ o. listing allows (next o)) bound

-- the step of a frame
abbrev pub step_in : Frame → StepValue
step_in frame = record { module_number = frame.module_number; class = frame.class }

-- the paths after all that begin with the steps of the frames
unfoldable pub ahead : Direction → Allowance → List FlatItem → List Frame → List PathValue
ahead direction allows program [] = []
ahead direction allows program (frame ∷ frames) =
    map (after_step (step_in frame)) (ahead direction allows program frames)
    ++ ahead_of direction allows (rest_of program frame.place) (past direction frame.code)

-- the codes that begin a branch
abbrev pub offered_at : Allowance → Runs → List ℕ
offered_at allows runs = codes_where (is_offered allows (next_ask runs))

-- the classes computed for a module that is asked: any other code is alone in its class, and the two classes computed
-- last are the classes of their codes
pub record AreClasses (ask : Ask) (classes : Classes) : Type 0 where
  pub alone : (code : ℕ) → code < 31 → is_in code classes.shared ≡ false → class_of ask code ≡ code ∷ []
  pub whole : (code : ℕ) → code < 31 → is_in code classes.known ≡ true → class_of ask code ≡ classes.known
  pub earlier : (code : ℕ) → code < 31 → is_in code classes.earlier ≡ true → class_of ask code ≡ classes.earlier

-- the paths left: at the start all, then those ahead of the frames
unfoldable pub coming : Direction → Allowance → List FlatItem → Bool → List Frame → List PathValue
coming direction allows program true frames = ordered direction (listing allows (runs_of program))
coming direction allows program false frames = ahead direction allows program frames
