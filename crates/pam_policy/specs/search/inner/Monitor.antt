-- For private contracts and proofs alone: a monitor, which watches the answers of a run, module after module. Its state of a query
-- of events together is a number whose binary digits, from the last, say which of the events are missing yet; its state of a query
-- of events in order is 1 as long as it waits for the second. So 0 is the state in which nothing is wanted any more.
use Rattle.std.specs.Prelude.{◌≡◌, ℕ, ◌+◌, ◌*◌, ◌/◌, ◌%◌, ◌==◌, Bool, true, ◌&&◌, if◌then◌else◌, List, [], ◌∷◌, Option, None, Some}
use Rattle.pam_codes.specs.Set.{is_in}
use Rattle.pam_policy.specs.declared.search.marks.Marks.{Marks}
use Rattle.pam_policy.specs.declared.search.query.Query.{Query}
use Rattle.pam_policy.specs.declared.search.query.Query.TheVariants.{Together, Before}
use Rattle.pam_policy.specs.declared.search.run.Step.{Step}
use Rattle.pam_policy.specs.search.Marks.{codes_at}

-- all events are missing
unfoldable pub all_missing : List Marks → ℕ
all_missing [] = 0
all_missing (marks ∷ wanted) = 1 + 2 * all_missing wanted

-- the events that are missing after an answer
unfoldable pub missing_after : List Marks → ℕ → ℕ → ℕ → ℕ
missing_after [] number code missing = 0
missing_after (marks ∷ wanted) number code missing =
    (if is_in code (codes_at marks number) then 0 else missing % 2) + 2 * missing_after wanted number code (missing / 2)

-- the state before the first answer
abbrev pub first_state : Query → ℕ
first_state (Together wanted barred decisions) = all_missing wanted.items
first_state (Before first second) = 1

-- the state after an answer of the module with a number; none if the answer is not wanted
abbrev pub after : Query → ℕ → ℕ → ℕ → Option ℕ
after (Together wanted barred decisions) number code state =
    if is_in code (codes_at barred number) then None else Some (missing_after wanted.items number code state)
after (Before first second) number code state =
    if state == 0 then Some 0
    else if is_in code (codes_at second number) then Some 0
    else if is_in code (codes_at first number) then None
    else Some 1

-- a run that decides a code may end in a state
abbrev pub is_good : Query → ℕ → ℕ → Bool
is_good (Together wanted barred decisions) state decision = (state == 0) && is_in decision decisions
is_good (Before first second) state decision = state == 0

-- from a state on, each of these answers is wanted, and a run that decides this code may end after them
unfoldable pub EndsWell : Query → ℕ → List Step → ℕ → Type 0
EndsWell query state [] decision = is_good query state decision ≡ true
EndsWell query state (step ∷ steps) decision =
    (next : ℕ) × (after query step.module_number step.code state ≡ Some next) × EndsWell query next steps decision
