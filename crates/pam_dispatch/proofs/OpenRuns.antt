-- Runs over trees: their laws, and their open form under an assignment.
use Rattle.std.proofs.Common.{◌≡◌, ℕ, ◌-◌, ◌≤◌, List, ◌∷◌, ◌++◌, zero, suc, refl, sym, ◌∙◌, ap, arith, leb, append_assoc, append-nil}
use Rattle.pam_conf.specs.Stack.{Items, End, ThenModule, ThenSub, ModuleText, SubText}
use Rattle.pam_dispatch.specs.declared.state.State.{State}
use Rattle.std.proofs.lemmas.Bool.{cond_both}
use Rattle.pam_codes.specs.declared.action.Action.{Action}
use Rattle.pam_codes.specs.declared.action.Action.TheVariants.{Ignore, Ok, Done, Bad, Die, Reset, Jump}
use Rattle.pam_dispatch.specs.declared.state.Impression.{Impression}
use Rattle.pam_dispatch.specs.declared.state.Impression.TheVariants.{Undef, Positive, Negative}
use Rattle.pam_dispatch.specs.Decision.{decision_of}
use Rattle.pam_dispatch.specs.State.{start_state, action_of, accepted, left_of, left_unless_positive}
use Rattle.pam_dispatch.specs.Runs.{Ask, Assignment, Runs, outcome_of, final_state, asked_by}
use Rattle.pam_dispatch.specs.Tree.{count, items_after, ask_of, run_after, asked_after, run, asked, runs_after, runs_of_stack, decided}

-- what passes over the first items takes the items after them
module _ {X : Type 0} (after : ℕ → Items → X) (end : (skip : ℕ) → after (suc skip) End ≡ after zero End)
    (module_first : (skip : ℕ) (m : ModuleText) (rest : Items) → after (suc skip) (ThenModule m rest) ≡ after skip rest)
    (sub_first : (skip : ℕ) (sub : SubText) (inner rest : Items) → after (suc skip) (ThenSub sub inner rest) ≡ after skip rest) where
  after-items_after : (skip : ℕ) (items : Items) → after skip items ≡ after zero (items_after skip items)
  unfolding items_after
  after-items_after zero items = refl
  after-items_after (suc skip) End = end skip
  after-items_after (suc skip) (ThenModule m rest) = module_first skip m rest ∙ after-items_after skip rest
  after-items_after (suc skip) (ThenSub sub inner rest) = sub_first skip sub inner rest ∙ after-items_after skip rest

-- a run after the first items is the run of the items after them
pub run_after-items_after : (skip : ℕ) (items : Items) (s entry : State) (answers : Assignment) →
    run_after skip items s entry answers ≡ run (items_after skip items) s entry answers
unfolding run_after
run_after-items_after skip items s entry answers =
    after-items_after (λ k is. run_after k is s entry answers) (λ k. refl) (λ k m rest. refl) (λ k sub inner rest. refl) skip items

pub asked_after-items_after : (skip : ℕ) (items : Items) (s entry : State) (answers : Assignment) →
    asked_after skip items s entry answers ≡ asked (items_after skip items) s entry answers
unfolding asked_after
asked_after-items_after skip items s entry answers =
    after-items_after (λ k is. asked_after k is s entry answers) (λ k. refl) (λ k m rest. refl) (λ k sub inner rest. refl) skip items

-- the number of items after the first `skip`
pub count-items_after : (skip : ℕ) (items : Items) → count (items_after skip items) ≡ count items - skip
unfolding count items_after
count-items_after zero items = omega arith
count-items_after (suc skip) End = omega arith
count-items_after (suc skip) (ThenModule m rest) = omega (arith, count-items_after skip rest)
count-items_after (suc skip) (ThenSub sub inner rest) = omega (arith, count-items_after skip rest)

-- under an assignment, an open run continues like the run of its tree
pub final_state-runs_after : (skip : ℕ) (items : Items) (s entry : State) (next : State → Runs) (answers : Assignment) →
    final_state (runs_after skip items s entry next) answers
    ≡ final_state (next (run_after skip items s entry answers)) answers
unfolding run_after runs_after final_state
final_state-runs_after skip End s entry next answers = refl
final_state-runs_after (suc skip) (ThenModule m rest) s entry next answers = final_state-runs_after skip rest s entry next answers
final_state-runs_after (suc skip) (ThenSub sub inner rest) s entry next answers = final_state-runs_after skip rest s entry next answers
final_state-runs_after zero (ThenModule m rest) s entry next answers = final_state-runs_after _ rest _ entry next answers
final_state-runs_after zero (ThenSub sub inner rest) s entry next answers =
    final_state-runs_after zero inner s s (λ t. runs_after zero rest t entry next) answers
    ∙ final_state-runs_after zero rest (run_after zero inner s s answers) entry next answers

-- and asks what the run of its tree asks
pub asked_by-runs_after : (skip : ℕ) (items : Items) (s entry : State) (next : State → Runs) (answers : Assignment) →
    asked_by (runs_after skip items s entry next) answers
    ≡ asked_after skip items s entry answers ++ asked_by (next (run_after skip items s entry answers)) answers
unfolding run_after runs_after asked_by asked_after
asked_by-runs_after skip End s entry next answers = refl
asked_by-runs_after (suc skip) (ThenModule m rest) s entry next answers = asked_by-runs_after skip rest s entry next answers
asked_by-runs_after (suc skip) (ThenSub sub inner rest) s entry next answers = asked_by-runs_after skip rest s entry next answers
asked_by-runs_after zero (ThenModule m rest) s entry next answers =
    let outcome = outcome_of (ask_of m rest s entry) (answers m.number) in
    ap (λ (x : List Ask). ask_of m rest s entry ∷ x)
    (asked_by-runs_after (count rest - outcome.left) rest outcome.state entry next answers)
asked_by-runs_after zero (ThenSub sub inner rest) s entry next answers =
    asked_by-runs_after zero inner s s (λ t. runs_after zero rest t entry next) answers
    ∙ ap (λ (x : List Ask). asked_after zero inner s s answers ++ x)
    (asked_by-runs_after zero rest (run_after zero inner s s answers) entry next answers)
    ∙ sym (append_assoc (asked_after zero inner s s answers) _ _)

pub final_state-runs_of_stack : (items : Items) (answers : Assignment) →
    final_state (runs_of_stack items) answers ≡ run items start_state start_state answers
unfolding final_state
final_state-runs_of_stack items answers = final_state-runs_after 0 items start_state start_state _ answers

pub decision_of-runs_of_stack : (items : Items) (answers : Assignment) →
    decision_of (final_state (runs_of_stack items) answers) ≡ decided items answers
unfolding decided
decision_of-runs_of_stack items answers = ap (λ (s : State). decision_of s) (final_state-runs_of_stack items answers)

pub asked_by-runs_of_stack : (items : Items) (answers : Assignment) →
    asked_by (runs_of_stack items) answers ≡ asked items start_state start_state answers
unfolding asked_by
asked_by-runs_of_stack items answers =
    asked_by-runs_after 0 items start_state start_state _ answers ∙ append-nil _

-- no action leaves more items than there are
left_of-fits : (action : Action) (code : ℕ) (s : State) (after : ℕ) → left_of action code s after ≤ after
left_of-fits Ignore code s after = omega arith
left_of-fits Ok code s after = omega arith
left_of-fits Bad code s after = omega arith
left_of-fits Reset code s after = omega arith
left_of-fits Die code s after = omega arith
left_of-fits Done code s after = unless_positive (accepted s.impression s.status code).impression
  where
    unless_positive : (impression : Impression) → left_unless_positive impression after ≤ after
    unless_positive Undef = omega arith
    unless_positive Positive = omega arith
    unless_positive Negative = omega arith
left_of-fits (Jump items) code s after =
    cond_both (leb items after) (after - items) 0 (λ x. x ≤ after) (λ h. omega arith) (λ h. omega arith)

pub left-fits : (ask : Ask) (code : ℕ) → (outcome_of ask code).left ≤ ask.after
unfolding outcome_of
left-fits ask code = left_of-fits (action_of ask.control code) code ask.state ask.after
