-- The paths through a stack, their keys, and the order of keys: pam.conf(5), DESCRIPTION.
use Rattle.std.specs.Prelude.{◌≡◌, ◌⊎◌, ℕ, ◌<◌, ◌==◌, nat_lt, Bool, true, false, ◌&&◌, ◌||◌, List, [], ◌∷◌, map}
use Rattle.pam_conf.specs.Stack.{Items}
use Rattle.pam_dispatch.specs.Decision.{decision_of}
use Rattle.pam_dispatch.specs.Runs.{Ask, Assignment, Runs, asked_by, final_state}
use Rattle.pam_dispatch.specs.State.{start_state}
use Rattle.pam_dispatch.specs.Tree.{asked, decided}
use Rattle.pam_text.specs.Members.{Member}
use Rattle.pam_paths.specs.Classes.{class_of, least}

-- the value of a step: the module asked, and the class of its answer
pub record StepValue : Type 0 where
  pub module_number : ℕ
  pub class : List ℕ

-- the value of a path: its steps and its decision
pub record PathValue : Type 0 where
  pub steps : List StepValue
  pub decision : ℕ

-- the step of a module that is asked, for the class of a code
abbrev pub step_of : Ask → ℕ → StepValue
step_of ask code = record { module_number = ask.module_number; class = class_of ask code }

-- the step in which a module gives its answer
abbrev pub step_by : Assignment → Ask → StepValue
step_by answers ask = step_of ask (answers ask.module_number)

-- THE PATH that an assignment takes through the tree of a stack: each module asked, in order, with the class of its
-- answer there, and the decision
unfoldable pub path_through : Items → Assignment → PathValue
path_through items answers = record {
  steps = map (step_by answers) (asked items start_state start_state answers);
  decision = decided items answers;
}

-- the same through an open run
unfoldable pub path_of : Runs → Assignment → PathValue
path_of runs answers = record {
  steps = map (step_by answers) (asked_by runs answers);
  decision = decision_of (final_state runs answers);
}

-- an assignment agrees with a path: at each step its code is in the class
unfoldable pub AgreesAlong : Assignment → List StepValue → Type 0
AgreesAlong answers [] = Unit {0}
AgreesAlong answers (step ∷ steps) = Member (answers step.module_number) step.class × AgreesAlong answers steps

abbrev pub Agrees : Assignment → PathValue → Type 0
Agrees answers path = AgreesAlong answers path.steps

-- THE KEY of a path: the least codes of its classes
unfoldable pub key_of : List StepValue → List ℕ
key_of [] = []
key_of (step ∷ steps) = least step.class ∷ key_of steps

abbrev pub key : PathValue → List ℕ
key path = key_of path.steps

-- the order of keys: by the first place where they differ, else the shorter first
unfoldable pub Precedes : List ℕ → List ℕ → Type 0
Precedes [] [] = ⊥
Precedes [] (y ∷ ys) = Unit {0}
Precedes (x ∷ xs) [] = ⊥
Precedes (x ∷ xs) (y ∷ ys) = (x < y) ⊎ ((x ≡ y) × Precedes xs ys)

-- the same, as a test
unfoldable pub precedes : List ℕ → List ℕ → Bool
precedes [] [] = false
precedes [] (y ∷ ys) = true
precedes (x ∷ xs) [] = false
precedes (x ∷ xs) (y ∷ ys) = nat_lt x y || ((x == y) && precedes xs ys)

-- the keys rise strictly: each path's key precedes those of all later ones
unfoldable pub PrecedesAll : List ℕ → List PathValue → Type 0
PrecedesAll k [] = Unit {0}
PrecedesAll k (path ∷ paths) = Precedes k (key path) × PrecedesAll k paths

unfoldable pub IsRising : List PathValue → Type 0
IsRising [] = Unit {0}
IsRising (path ∷ paths) = PrecedesAll (key path) paths × IsRising paths

-- the keys fall strictly
unfoldable pub FollowsAll : List ℕ → List PathValue → Type 0
FollowsAll k [] = Unit {0}
FollowsAll k (path ∷ paths) = Precedes (key path) k × FollowsAll k paths

unfoldable pub IsFalling : List PathValue → Type 0
IsFalling [] = Unit {0}
IsFalling (path ∷ paths) = FollowsAll (key path) paths × IsFalling paths
