-- For private contracts and proofs alone: the first of two runs.
use Rattle.std.specs.Prelude.{◌==◌, ◌&&◌, ◌||◌, Bool, true, false, nat_lt, if◌then◌else◌, List, [], ◌∷◌, length, MatchOption, Option, None, Some}
use Rattle.pam_policy.specs.declared.rules.verdict.Verdict.{Verdict}
use Rattle.pam_policy.specs.declared.rules.verdict.Verdict.TheVariants.{Holds, Broken, Shown, Impossible}
use Rattle.pam_policy.specs.declared.search.run.Run.{Run}
use Rattle.pam_policy.specs.declared.search.run.Step.{Step}
use Rattle.pam_policy.specs.search.inner.Distances.{IsFirst}
use Rattle.pam_policy.specs.search.Runs.{RunValue, rank, run_value}

-- steps come before others that are as many: where their answers first differ in rank, by it
abbrev pub comes_before : List Step → List Step → Bool
comes_before [] others = false
comes_before (step ∷ steps) [] = false
comes_before (step ∷ steps) (other ∷ others) =
    if nat_lt (rank step.code) (rank other.code) then true
    else if nat_lt (rank other.code) (rank step.code) then false
    else comes_before steps others

-- a run asks fewer modules than another, or as many with answers that come first
abbrev pub is_before : Run → Run → Bool
is_before run other =
    nat_lt (length run.steps.items) (length other.steps.items)
    || (length run.steps.items == length other.steps.items && comes_before run.steps.items other.steps.items)

-- the first of two runs, if there is one
abbrev pub first_of : Option Run → Option Run → Option Run
first_of None other = other
first_of (Some one) None = Some one
first_of (Some one) (Some other) = if is_before other one then Some other else Some one

-- what is found is the first of the runs of which something holds
abbrev pub SaysFirst : (RunValue → Type 0) → Option Run → Type 0
SaysFirst Such found = MatchOption found ((run : RunValue) → Such run → ⊥) (λ run. IsFirst Such (run_value run))

-- the verdict on a rule that a run breaks, or none; and on one that a run shows, or none
abbrev pub holds_unless : Option Run → Verdict
holds_unless None = Holds
holds_unless (Some run) = Broken run

abbrev pub shown_by : Option Run → Verdict
shown_by None = Impossible
shown_by (Some run) = Shown run
