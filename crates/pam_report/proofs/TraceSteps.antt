-- The trace of a run, module by module, and the answer that it is a part of.
use Rattle.std.proofs.Common.{◌≡◌, ℕ, ◌-◌, ◌<◌, ◌≤◌, ◌==◌, List, [], ◌∷◌, ◌++◌, Some, None, Ok, length, map, get_or}
use Rattle.std.proofs.Common.{arith, refl, sym, ◌∙◌, ap, subst, append_assoc, append-nil}
use Rattle.std.proofs.lemmas.Bool.{cond-true, eq-eqb}
use Rattle.std.proofs.lemmas.List.{get_or_default, map-append}
use Rattle.pam_codes.specs.declared.action.Action.{Action}
use Rattle.pam_conf.specs.Stack.{Items, module_count}
use Rattle.pam_conf.specs.declared.rule.Kind.{Kind}
use Rattle.pam_dispatch.specs.declared.flat_item.FlatItem.{FlatItem}
use Rattle.pam_dispatch.specs.declared.place.Place.{Place}
use Rattle.pam_dispatch.specs.declared.state.State.{State}
use Rattle.pam_dispatch.specs.Decision.{decision_of}
use Rattle.pam_dispatch.specs.Flat.{modules_of, rest_of}
use Rattle.pam_dispatch.specs.Runs.{Ask, AsksRise, Assignment, Runs, after_answer, answers_of, asked_by, asked_module as number_asked}
use Rattle.pam_dispatch.specs.Runs.{final_state, next_ask, outcome_of}
use Rattle.pam_dispatch.specs.State.{action_of}
use Rattle.pam_dispatch.specs.Tree.{decided, runs_of_stack}
use Rattle.pam_dispatch.proofs.Asking.{AsksRise-step, asked_by-end, asked_by-step}
use Rattle.pam_dispatch.proofs.Numbering.{AsksRise-lower}
use Rattle.pam_dispatch.proofs.OpenRuns.{asked_by-runs_of_stack, decision_of-runs_of_stack}
use Rattle.pam_report.specs.Answer.{decided_by, run_of}
use Rattle.pam_report.specs.Decide.{AskedModule, asked_module, asked_modules, path_at}
use Rattle.pam_report.specs.Reply.{Run, RunValue}

abbrev pub module_of : ℕ → List ℕ → ℕ → Action → State → AskedModule
module_of number path code action state = record { number = number; path = path; code = code; action = action; state = state }

-- a module that is asked, from its number and its code
abbrev asked_at : Items → Ask → ℕ → ℕ → AskedModule
asked_at items ask number code = record {
  number = number;
  path = path_at number items;
  code = code;
  action = action_of ask.control code;
  state = (outcome_of ask code).state;
}

module _ (items : Items) (answers : Assignment) where
  -- a module that is asked, from its parts
  pub asked-is : (ask : Ask) (number code : ℕ) (path : List ℕ) (action : Action) (state : State) →
      ask.module_number ≡ number → answers number ≡ code → path ≡ path_at number items → action ≡ action_of ask.control code →
      state ≡ (outcome_of ask code).state → module_of number path code action state ≡ asked_module items answers ask
  unfolding asked_module
  asked-is ask number code path action state n c p a s =
      ap (λ (x : List ℕ). module_of number x code action state) p
      ∙ ap (λ (y : Action). module_of number (path_at number items) code y state) a
      ∙ ap (λ (z : State). module_of number (path_at number items) code (action_of ask.control code) z) s
      ∙ ap (λ (k : ℕ). asked_at items ask number k) (sym c)
      ∙ ap (λ (m : ℕ). asked_at items ask m (answers m)) (sym n)

  -- the modules of a run that asks one
  asked-step : (runs : Runs) (number : ℕ) → number_asked runs ≡ Some number →
      asked_modules items answers (asked_by runs answers)
      ≡ asked_module items answers (next_ask runs) ∷ asked_modules items answers (asked_by (after_answer runs (answers number)) answers)
  asked-step runs number asks = ap (λ (x : List Ask). asked_modules items answers x) (asked_by-step answers runs number asks)

  -- at the end, the modules so far are all modules
  pub asked-ends : (whole so_far : List AskedModule) (runs : Runs) → so_far ++ asked_modules items answers (asked_by runs answers) ≡ whole →
      number_asked runs ≡ None → so_far ≡ whole
  asked-ends whole so_far runs before none =
      sym (append-nil so_far)
      ∙ sym (ap (λ (x : List Ask). so_far ++ asked_modules items answers x) (asked_by-end answers runs none))
      ∙ before

  -- the modules so far go on with the one that is asked
  pub asked-goes_on : {A : Type 0} (view : A → AskedModule) (xs ys : List A) (x : A) (runs next : Runs) (number code : ℕ) (whole : List AskedModule) →
      map view xs ++ asked_modules items answers (asked_by runs answers) ≡ whole →
      ys ≡ xs ++ x ∷ [] → number_asked runs ≡ Some number → answers number ≡ code → next ≡ after_answer runs code →
      view x ≡ asked_module items answers (next_ask runs) →
      map view ys ++ asked_modules items answers (asked_by next answers) ≡ whole
  asked-goes_on view xs ys x runs next number code whole before pushed asks is follows same =
      let rest = λ (r : Runs). asked_modules items answers (asked_by r answers) in
      ap (λ l. map view l ++ rest next) pushed
      ∙ ap (λ l. l ++ rest next) (map-append view xs (x ∷ []))
      ∙ append_assoc (map view xs) (view x ∷ []) (rest next)
      ∙ ap (λ m. map view xs ++ m ∷ rest next) same
      ∙ ap (λ (r : Runs). map view xs ++ asked_module items answers (next_ask runs) ∷ rest r) follows
      ∙ ap (λ (k : ℕ). map view xs ++ asked_module items answers (next_ask runs) ∷ rest (after_answer runs k)) (sym is)
      ∙ ap (λ l. map view xs ++ l) (sym (asked-step runs number asks))
      ∙ before

-- a step from a place that asks the module of a number
module _ (program : List FlatItem) (place : Place) (number : ℕ)
    (rise : AsksRise 0 (modules_of program) (rest_of program place)) (is : number_asked (rest_of program place) ≡ Some number) where
  range : (0 < number) × (number ≤ modules_of program) × ((code : ℕ) → AsksRise number (modules_of program) (after_answer (rest_of program place) code))
  range = AsksRise-step 0 _ _ number rise is

  pub from_one : 1 ≤ number
  from_one = omega (arith, range.0)

  pub to_last : number ≤ modules_of program
  to_last = range.1

  pub rises_on : (next : Place) (code : ℕ) → rest_of program next ≡ after_answer (rest_of program place) code →
      AsksRise 0 (modules_of program) (rest_of program next)
  rises_on next code follows =
      subst (λ (r : Runs). AsksRise 0 (modules_of program) r) (sym follows)
      (AsksRise-lower 0 number _ _ (omega arith) (range.2 code))

  -- the code in the list is the answer
  pub answer_read : (codes : List ℕ) (code : ℕ) → length codes ≡ modules_of program → code ≡ get_or codes (number - 1) code → answers_of codes number ≡ code
  answer_read codes code each read = get_or_default codes (number - 1) 0 code (omega (arith, range.0, range.1, each)) ∙ sym read

-- the decision of a run is that of the stack
decision-is : (items : Items) (answers : Assignment) (runs : Runs) (decision : ℕ) → runs ≡ runs_of_stack items →
    decision ≡ decision_of (final_state runs answers) → decision ≡ decided items answers
decision-is items answers runs decision r d = d ∙ ap (λ (x : Runs). decision_of (final_state x answers)) r ∙ decision_of-runs_of_stack items answers

-- if there is a code for each module, the answer is that run
decided_by-is : (service : List ℕ) (kind : Kind) (items : Items) (answered : List ℕ) → length answered ≡ module_count items →
    decided_by service kind answered items ≡ Ok (Run (run_of service kind answered items))
decided_by-is service kind items answered e = cond-true (length answered == module_count items) _ _ (eq-eqb _ _ e)

abbrev run_value : List ℕ → Kind → ℕ → List AskedModule → ℕ → RunValue
run_value service kind modules trace decision = record { service = service; kind = kind; modules = modules; asked = trace; decision = decision }

run-is : (service : List ℕ) (kind : Kind) {modules count : ℕ} {trace other : List AskedModule} {decision code : ℕ} → modules ≡ count → trace ≡ other
    → decision ≡ code → run_value service kind modules trace decision ≡ run_value service kind count other code
run-is service kind m t d = rw (m, t, d) refl

-- the run that is found is the answer
pub answer-is : (service : List ℕ) (kind : Kind) (items : Items) (answered : List ℕ) (runs : Runs) (modules decision : ℕ) (trace : List AskedModule)
    → length answered ≡ modules → modules ≡ module_count items → runs ≡ runs_of_stack items →
    trace ≡ asked_modules items (answers_of answered) (asked_by runs (answers_of answered)) →
    decision ≡ decision_of (final_state runs (answers_of answered)) →
    decided_by service kind answered items ≡ Ok (Run (run_value service kind modules trace decision))
answer-is service kind items answered runs modules decision trace each m r t d =
    let answers = answers_of answered in
    let decides = decision-is items answers runs decision r d in
    let asks = ap (λ (x : Runs). asked_by x answers) r ∙ asked_by-runs_of_stack items answers in
    let all = t ∙ ap (λ (x : List Ask). asked_modules items answers x) asks in
    decided_by-is service kind items answered (each ∙ m) ∙ ap (λ (run : RunValue). Ok (Run run)) (sym (run-is service kind m all decides))
