-- The listing, computed in the order of an explorer; `Listing` defines it.
use Rattle.std.specs.Prelude.{ℕ, ◌==◌, Bool, ◌&&◌, if◌then◌else◌, List, [], ◌∷◌, ◌++◌, map}
use Rattle.std.specs.List.{list_any}
use Rattle.pam_codes.specs.Code.{all_codes}
use Rattle.pam_dispatch.specs.declared.step.Outcome.{Outcome}
use Rattle.pam_dispatch.specs.Decision.{decision_of}
use Rattle.pam_dispatch.specs.Runs.{Ask, Runs, ends, asks, outcome_of}
use Rattle.pam_paths.specs.Classes.{class_of, least}
use Rattle.pam_paths.specs.Listing.{Allowance}
use Rattle.pam_paths.specs.Paths.{PathValue, StepValue, step_of}

-- a path with one more step at the start
abbrev pub after_step : StepValue → PathValue → PathValue
after_step step path = record { steps = step ∷ path.steps; decision = path.decision }

-- paths, each with these steps at the start
unfoldable pub after_steps : List StepValue → List PathValue → List PathValue
after_steps [] paths = paths
after_steps (step ∷ steps) paths = map (after_step step) (after_steps steps paths)

-- a code begins a branch if it is the least of its class and the class has an allowed code
unfoldable pub is_offered : Allowance → Ask → ℕ → Bool
is_offered allows ask code =
    (least (class_of ask code) == code) && list_any (allows ask.module_number) (class_of ask code)

-- the paths from a module on that begin with one of these codes
unfoldable pub branches : Allowance → Ask → (Outcome → List PathValue) → List ℕ → List PathValue
branches allows ask below [] = []
branches allows ask below (code ∷ codes) =
    (if is_offered allows ask code then map (after_step (step_of ask code)) (below (outcome_of ask code)) else [])
    ++ branches allows ask below codes

-- the listing of an open run
unfoldable pub listing : Allowance → Runs → List PathValue
listing allows (ends s) = record { steps = []; decision = decision_of s } ∷ []
listing allows (asks ask next) = branches allows ask (λ o. listing allows (next o)) all_codes
