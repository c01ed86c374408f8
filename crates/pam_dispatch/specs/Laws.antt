-- Laws of runs and of open runs, in the words of pam.conf(5), DESCRIPTION.
use Rattle.std.specs.Prelude.{◌≡◌, ◌+◌, ◌<◌, ◌≤◌, ◌⊎◌, ℕ, false, IsTrue, [], ◌∷◌, ◌++◌, map}
use Rattle.std.specs.List.{range_with_len}
use Rattle.pam_codes.specs.declared.code.TheConstants.{CODES}
use Rattle.pam_conf.specs.Stack.{Items, End, ThenModule, ThenSub, IsNumbered, ModuleText, SubText, module_count}
use Rattle.pam_dispatch.specs.declared.state.State.{State}
use Rattle.pam_dispatch.specs.Runs.{Ask, AsksRise, Assignment, Runs, outcome_of, final_state, asked_by}
use Rattle.pam_dispatch.specs.Decision.{decision_of}
use Rattle.pam_dispatch.specs.State.{action_of, start_state}
use Rattle.pam_dispatch.specs.Alike.{IsDenial, looks_at_code, retold}
use Rattle.pam_dispatch.specs.Representatives.{AreEqualRests}
use Rattle.pam_dispatch.specs.Settled.{IsSettled}
use Rattle.pam_dispatch.specs.Tree.{count, ask_of, last_items, run, asked, decided, runs_of_stack}

-- an empty list leaves the state as it is, and asks nothing
abbrev pub RunOfNothing : Type 0
RunOfNothing = (s entry : State) (answers : Assignment) → run End s entry answers ≡ s

abbrev pub AskedOfNothing : Type 0
AskedOfNothing = (s entry : State) (answers : Assignment) → asked End s entry answers ≡ []

-- a substack runs first, entered in the state of its parent there; then the rest runs, from the state reached
abbrev pub RunOfSubstack : Type 0
RunOfSubstack =
    (sub : SubText) (inner rest : Items) (s entry : State) (answers : Assignment) →
    run (ThenSub sub inner rest) s entry answers ≡ run rest (run inner s s answers) entry answers

abbrev pub AskedOfSubstack : Type 0
AskedOfSubstack =
    (sub : SubText) (inner rest : Items) (s entry : State) (answers : Assignment) →
    asked (ThenSub sub inner rest) s entry answers
    ≡ asked inner s s answers ++ asked rest (run inner s s answers) entry answers

-- a module is asked; then the last items of the rest run, as many as the outcome leaves, from its state
abbrev pub RunOfModule : Type 0
RunOfModule =
    (m : ModuleText) (rest : Items) (s entry : State) (answers : Assignment) →
    let outcome = outcome_of (ask_of m rest s entry) (answers m.number) in
    run (ThenModule m rest) s entry answers ≡ run (last_items outcome.left rest) outcome.state entry answers

abbrev pub AskedOfModule : Type 0
AskedOfModule =
    (m : ModuleText) (rest : Items) (s entry : State) (answers : Assignment) →
    let outcome = outcome_of (ask_of m rest s entry) (answers m.number) in
    asked (ThenModule m rest) s entry answers
    ≡ ask_of m rest s entry ∷ asked (last_items outcome.left rest) outcome.state entry answers

-- an outcome leaves no more items than there are, and the last `left` items of a list are that many
abbrev pub LeftFits : Type 0
LeftFits = (ask : Ask) (code : ℕ) → (outcome_of ask code).left ≤ ask.after

abbrev pub LastItemsCount : Type 0
LastItemsCount = (left : ℕ) (items : Items) → left ≤ count items → count (last_items left items) ≡ left

-- under an assignment, the open run of a stack ends like the run of its tree, asks the same, and decides the same
abbrev pub OpenRunEnds : Type 0
OpenRunEnds =
    (items : Items) (answers : Assignment) →
    final_state (runs_of_stack items) answers ≡ run items start_state start_state answers

abbrev pub OpenRunAsks : Type 0
OpenRunAsks =
    (items : Items) (answers : Assignment) →
    asked_by (runs_of_stack items) answers ≡ asked items start_state start_state answers

abbrev pub OpenRunDecides : Type 0
OpenRunDecides =
    (items : Items) (answers : Assignment) →
    decision_of (final_state (runs_of_stack items) answers) ≡ decided items answers

-- if the modules of a stack are numbered from the left, a run asks them in the order of their numbers, none of them twice
abbrev pub StackAsksRise : Type 0
StackAsksRise = (items : Items) → IsNumbered items → AsksRise 0 (module_count items) (runs_of_stack items)

-- if two codes have one action, the outcome of the first determines that of the second
abbrev pub OutcomeIsRetold : Type 0
OutcomeIsRetold =
    (ask : Ask) (known code : ℕ) → action_of ask.control known ≡ action_of ask.control code →
    outcome_of ask code ≡ retold (action_of ask.control code) ask.state (outcome_of ask known) code

-- it is the same if their action does not look at the code
abbrev pub OutcomeIsShared : Type 0
OutcomeIsShared =
    (ask : Ask) (one other : ℕ) → action_of ask.control one ≡ action_of ask.control other →
    looks_at_code (action_of ask.control one) ask.state ≡ false → outcome_of ask one ≡ outcome_of ask other

-- two codes whose actions look at them have different outcomes, unless both fail the stack as perm_denied
abbrev pub OutcomesDiffer : Type 0
OutcomesDiffer =
    (ask : Ask) (one other : ℕ) →
    IsTrue (looks_at_code (action_of ask.control one) ask.state) → IsTrue (looks_at_code (action_of ask.control other) ask.state) →
    outcome_of ask one ≡ outcome_of ask other →
    (one ≡ other) ⊎ (IsDenial (action_of ask.control one) one × IsDenial (action_of ask.control other) other)

-- the `count` modules from the module `first` on answer with codes
abbrev pub AnswerCodes : ℕ → ℕ → Assignment → Type 0
AnswerCodes first count answers = (number : ℕ) → first ≤ number → number < first + count → answers number < CODES

-- whatever the modules of a settled run answer, they are asked in order, and the run ends in its state
abbrev pub SettledAsks : Type 0
SettledAsks =
    (first count : ℕ) (s : State) (runs : Runs) (answers : Assignment) → IsSettled first count s runs → AnswerCodes first count answers →
    map (λ ask. ask.module_number) (asked_by runs answers) ≡ range_with_len first count

abbrev pub SettledEnds : Type 0
SettledEnds =
    (first count : ℕ) (s : State) (runs : Runs) (answers : Assignment) → IsSettled first count s runs → AnswerCodes first count answers →
    final_state runs answers ≡ s

-- whatever the modules answer, equal rests of a run end in one state, and ask the same modules
abbrev pub EqualRestsEnd : Type 0
EqualRestsEnd = (one other : Runs) (answers : Assignment) → AreEqualRests one other → final_state one answers ≡ final_state other answers

abbrev pub EqualRestsAsk : Type 0
EqualRestsAsk =
    (one other : Runs) (answers : Assignment) → AreEqualRests one other →
    map (λ ask. ask.module_number) (asked_by one answers) ≡ map (λ ask. ask.module_number) (asked_by other answers)
