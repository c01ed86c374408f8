-- For private contracts and proofs alone: the part of a listing that is left, by the frames of the path that an explorer returned
-- last.
use Rattle.std.specs.Prelude.{◌≡◌, ℕ, Bool, true, ◌+◌, ◌-◌, ◌<◌, ◌≤◌, if◌then◌else◌, List, [], ◌∷◌, ◌++◌, length, map, take}
use Rattle.std.specs.Prelude.{IfNone, IfSome, Option, Some}
use Rattle.pam_conf.specs.declared.stack.TheConstants.{MAX_MODULES}
use Rattle.pam_dispatch.specs.declared.flat_item.FlatItem.{FlatItem}
use Rattle.pam_dispatch.specs.declared.place.Place.{Place}
use Rattle.pam_dispatch.specs.declared.settled.SettledRun.{SettledRun}
use Rattle.pam_dispatch.specs.Flat.{IsPlaceOf, modules_of, rest_of}
use Rattle.pam_dispatch.specs.Runs.{Runs, ends, asks, AsksRise, asked_module, next_ask, outcome_of}
use Rattle.pam_paths.specs.declared.direction.Direction.{Direction}
use Rattle.pam_paths.specs.declared.frames.Frame.{Frame}
use Rattle.pam_paths.specs.Computed.{after_step, after_steps, is_offered, listing}
use Rattle.pam_paths.specs.Directions.{ordered, past}
use Rattle.pam_paths.specs.Listing.{Allowance}
use Rattle.pam_paths.specs.Paths.{PathValue, StepValue, step_of}
use Rattle.pam_paths.specs.Tail.{tail_from}
use Rattle.pam_paths.specs.Frames.{ahead, branches_in, step_in, offered_at, AreClasses}

-- steps are those of the frames, as far as there are both
abbrev pub AreFirstSteps : List Frame → List StepValue → Type 0
AreFirstSteps frames steps = take (length frames) steps ≡ take (length steps) (map step_in frames)

-- the path of frames, and then of the rest of a settled run through `modules` modules
abbrev pub path_to : ℕ → List Frame → SettledRun → PathValue
path_to modules frames rest = record {
  steps = map step_in frames ++ tail_from (modules + 1 - rest.modules) rest.modules;
  decision = rest.decision;
}

-- the paths, each with the steps of the frames before it
abbrev pub under : List Frame → List PathValue → List PathValue
under frames paths = after_steps (map step_in frames) paths

-- the paths after a key
unfoldable pub part : Direction → Allowance → Runs → List ℕ → List PathValue
part direction allows (ends s) codes = []
part direction allows (asks ask next) [] = []
part direction allows (asks ask next) (code ∷ codes) =
    (if is_offered allows ask code then map (after_step (step_of ask code)) (part direction allows (next (outcome_of ask code)) codes) else [])
    ++ branches_in direction allows ask (λ o. listing allows (next o)) (past direction code)

-- a frame is at a module of the program; this module and those asked later have numbers above `low`
pub record IsFrame (allows : Allowance) (program : List FlatItem) (low : ℕ) (frame : Frame) : Type 0 where
  pub place : IsPlaceOf program frame.place
  pub asking : asked_module (rest_of program frame.place) ≡ Some frame.module_number
  pub rise : AsksRise low (modules_of program) (rest_of program frame.place)
  pub offered : frame.classes.offered ≡ offered_at allows (rest_of program frame.place)
  pub classes : AreClasses (next_ask (rest_of program frame.place)) frame.classes
  pub code : frame.code < 31

-- frames, outermost first, of modules with numbers above `low`, `low + 1` and so on
unfoldable pub AreFrames : Allowance → List FlatItem → ℕ → List Frame → Type 0
AreFrames allows program low [] = Unit {0}
AreFrames allows program low (frame ∷ frames) = IsFrame allows program low frame × AreFrames allows program (low + 1) frames

-- the frames of an explorer are of its program; there are none at the start
pub record IsExploring (allows : Allowance) (program : List FlatItem) (at_start : Bool) (frames : List Frame) : Type 0 where
  pub few : modules_of program ≤ MAX_MODULES
  pub valid : AreFrames allows program 0 frames
  pub start : at_start ≡ true → frames ≡ []

-- of the paths that were left, those from a place on are next, after the steps of the frames; or there was none. All frames but the
-- last are those that were there
pub record ComesTo (direction : Direction) (allows : Allowance) (program : List FlatItem) (left : List PathValue) (old new : List Frame)
    (next : Place) (found : Option (Unit {0})) : Type 0 where
  pub none : IfNone found (left ≡ [])
  pub emptied : IfNone found (new ≡ [])
  pub place : IfSome found (λ _. IsPlaceOf program next)
  pub frames : AreFrames allows program 0 new
  pub rise : IfSome found (λ _. AsksRise (length new) (modules_of program) (rest_of program next))
  pub earlier : take (length new - 1) new ≡ take (length new - 1) old
  pub paths : IfSome found (λ _. left ≡ under new (ordered direction (listing allows (rest_of program next))) ++ ahead direction allows program new)
