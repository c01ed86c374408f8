-- The run of a stack, over its tree of items: pam.conf(5), DESCRIPTION.
use Rattle.std.specs.Prelude.{ℕ, ◌-◌, List, [], ◌∷◌, ◌++◌}
use Rattle.std.proofs.Common.{zero, suc}
use Rattle.pam_conf.specs.Stack.{Items, End, ThenModule, ThenSub, ModuleText}
use Rattle.pam_dispatch.specs.declared.state.State.{State}
use Rattle.pam_dispatch.specs.State.{start_state}
use Rattle.pam_dispatch.specs.Decision.{decision_of}
use Rattle.pam_dispatch.specs.Runs.{Ask, Assignment, Runs, ends, asks, outcome_of}

-- the number of items of a list; a substack is one
unfoldable pub count : Items → ℕ
count End = 0
count (ThenModule m rest) = suc (count rest)
count (ThenSub sub inner rest) = suc (count rest)

-- the items after the first `skip`
unfoldable pub items_after : ℕ → Items → Items
items_after zero items = items
items_after (suc skip) End = End
items_after (suc skip) (ThenModule m rest) = items_after skip rest
items_after (suc skip) (ThenSub sub inner rest) = items_after skip rest

-- the last `left` items of a list
abbrev pub last_items : ℕ → Items → Items
last_items left items = items_after (count items - left) items

-- a module as it is asked, before the rest of its list, in the state `s`, in a list entered in the state `entry`
abbrev pub ask_of : ModuleText → Items → State → State → Ask
ask_of m rest s entry = record { module_number = m.number; control = m.control; state = s; entry = entry; after = count rest }

-- the state in which a run of the items after the first `skip` ends
unfoldable pub run_after : ℕ → Items → State → State → Assignment → State
run_after skip End s entry answers = s
run_after (suc skip) (ThenModule m rest) s entry answers = run_after skip rest s entry answers
run_after (suc skip) (ThenSub sub inner rest) s entry answers = run_after skip rest s entry answers
run_after zero (ThenModule m rest) s entry answers =
    let outcome = outcome_of (ask_of m rest s entry) (answers m.number) in
    run_after (count rest - outcome.left) rest outcome.state entry answers
run_after zero (ThenSub sub inner rest) s entry answers =
    run_after zero rest (run_after zero inner s s answers) entry answers

-- the modules asked in that run, in order
unfoldable pub asked_after : ℕ → Items → State → State → Assignment → List Ask
asked_after skip End s entry answers = []
asked_after (suc skip) (ThenModule m rest) s entry answers = asked_after skip rest s entry answers
asked_after (suc skip) (ThenSub sub inner rest) s entry answers = asked_after skip rest s entry answers
asked_after zero (ThenModule m rest) s entry answers =
    let outcome = outcome_of (ask_of m rest s entry) (answers m.number) in
    ask_of m rest s entry ∷ asked_after (count rest - outcome.left) rest outcome.state entry answers
asked_after zero (ThenSub sub inner rest) s entry answers =
    asked_after zero inner s s answers
    ++ asked_after zero rest (run_after zero inner s s answers) entry answers

-- the state in which a run of these items from the state `s` ends, in a list entered in the state `entry`
abbrev pub run : Items → State → State → Assignment → State
run items s entry answers = run_after 0 items s entry answers

-- the modules asked in that run, in order
abbrev pub asked : Items → State → State → Assignment → List Ask
asked items s entry answers = asked_after 0 items s entry answers

-- THE DECISION of a stack whose modules give these answers
unfoldable pub decided : Items → Assignment → ℕ
decided items answers = decision_of (run items start_state start_state answers)

-- the open run of the items after the first `skip`, followed by `next`
unfoldable pub runs_after : ℕ → Items → State → State → (State → Runs) → Runs
runs_after skip End s entry next = next s
runs_after (suc skip) (ThenModule m rest) s entry next = runs_after skip rest s entry next
runs_after (suc skip) (ThenSub sub inner rest) s entry next = runs_after skip rest s entry next
runs_after zero (ThenModule m rest) s entry next =
    asks (ask_of m rest s entry) (λ o. runs_after (count rest - o.left) rest o.state entry next)
runs_after zero (ThenSub sub inner rest) s entry next =
    runs_after zero inner s s (λ t. runs_after zero rest t entry next)

-- the open run of a stack
abbrev pub runs_of_stack : Items → Runs
runs_of_stack items = runs_after 0 items start_state start_state (λ s. ends s)
