-- The runs of a stack, as they are shown, and which of them is shown first: pam.conf(5), DESCRIPTION.
use Rattle.std.specs.Prelude.{◌≡◌, ◌⊎◌, ℕ, ◌+◌, ◌<◌, ◌==◌, if◌then◌else◌, List, [], ◌∷◌, map}
use Rattle.pam_codes.specs.Code.{auth_err, ignored, perm_denied, success}
use Rattle.pam_conf.specs.Stack.{Items}
use Rattle.pam_dispatch.specs.Runs.{Ask, Assignment}
use Rattle.pam_dispatch.specs.State.{start_state}
use Rattle.pam_dispatch.specs.Tree.{asked, decided}
use Rattle.pam_policy.specs.declared.search.run.Run.{Run}
use Rattle.pam_policy.specs.declared.search.run.Step.{Step}

-- the modules that are asked, in turn, with their answers; and the decision
pub record RunValue : Type 0 where
  pub steps : List Step
  pub decision : ℕ

abbrev pub run_value : Run → RunValue
run_value run = record { steps = run.steps.items; decision = run.decision }

-- a module that is asked gives its answer
abbrev pub step_by : Assignment → Ask → Step
step_by answers ask = record { module_number = ask.module_number; code = answers ask.module_number }

-- THE RUN of a stack whose modules give these answers
abbrev pub run_of : Items → Assignment → RunValue
run_of items answers = record { steps = map (step_by answers) (asked items start_state start_state answers); decision = decided items answers }

abbrev pub authinfo_unavail : ℕ
authinfo_unavail = 9

abbrev pub user_unknown : ℕ
user_unknown = 10

-- the place of an answer in the order in which they are shown: those that people meet most, and then the others, by their numbers
abbrev pub rank : ℕ → ℕ
rank code =
    if code == success then 0
    else if code == auth_err then 1
    else if code == perm_denied then 2
    else if code == user_unknown then 3
    else if code == authinfo_unavail then 4
    else if code == ignored then 5
    else code + 6

-- the steps of a run are shown before those of another: where they first differ, the answer comes before the other
unfoldable pub ComesBefore : List Step → List Step → Type 0
ComesBefore [] others = ⊥
ComesBefore (step ∷ steps) [] = ⊥
ComesBefore (step ∷ steps) (other ∷ others) = (rank step.code < rank other.code) ⊎ ((step ≡ other) × ComesBefore steps others)
