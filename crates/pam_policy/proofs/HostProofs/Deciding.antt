-- The decision of a stack whose modules answer codes is a code.
use Rattle.std.proofs.Common.{◌≡◌, ℕ, ◌-◌, ◌<◌, Bool, true, false, List, zero, suc, arith, inl, inr, refl}
use Rattle.std.specs.Prelude.{◌==◌, if◌then◌else◌, nat_le}
use Rattle.pam_codes.specs.Code.{all_codes}
use Rattle.pam_codes.specs.Set.{is_in}
use Rattle.pam_codes.specs.declared.action.Action.{Action}
use Rattle.pam_codes.specs.declared.action.Action.TheVariants.{Ignore, Ok, Done, Bad, Die, Reset, Jump}
use Rattle.pam_conf.specs.Stack.{Items, End, ThenModule, ThenSub, IsNumbered, module_count}
use Rattle.pam_dispatch.specs.Decision.{decision_by}
use Rattle.pam_dispatch.specs.Runs.{Ask, Assignment, outcome_of}
use Rattle.pam_dispatch.specs.State.{accepted, act, action_of, ignored, perm_denied, refused, start_state, state_with, success}
use Rattle.pam_dispatch.specs.Tree.{ask_of, asked_after, count, decided, run_after}
use Rattle.pam_dispatch.specs.declared.state.Impression.{Impression}
use Rattle.pam_dispatch.specs.declared.state.Impression.TheVariants.{Undef, Positive, Negative}
use Rattle.pam_dispatch.specs.declared.state.State.{State}
use Rattle.pam_paths.proofs.Listings.{Member-left, Member-right}
use Rattle.pam_paths.specs.Listing.{Allowance, IsAllowed}
use Rattle.pam_text.specs.Members.{Member}
use Rattle.pam_policy.proofs.RulesProofs.Asks.{asked-own}
use Rattle.pam_policy.proofs.TextProofs.CodeSteps.{in_all}

-- a state has a code
abbrev HasCode : State → Type 0
HasCode s = s.status < 31

either-code : (b : Bool) (x y : ℕ) → x < 31 → y < 31 → (if b then x else y) < 31
either-code true x y h k = h
either-code false x y h k = k

either-state : (b : Bool) (s t : State) → HasCode s → HasCode t → HasCode (if b then s else t)
either-state true s t h k = h
either-state false s t h k = k

accepted-code : (i : Impression) (status code : ℕ) → status < 31 → code < 31 → HasCode (accepted i status code)
accepted-code Undef status code old new = new
accepted-code Positive status code old new = either-state (status == success) (state_with Positive code) (state_with Positive status) new old
accepted-code Negative status code old new = old

refused-code : (i : Impression) (status code : ℕ) → status < 31 → code < 31 → HasCode (refused i status code)
refused-code Negative status code old new = old
refused-code Undef status code old new = either-code (code == ignored) perm_denied code (omega arith) new
refused-code Positive status code old new = either-code (code == ignored) perm_denied code (omega arith) new

act-code : (a : Action) (code : ℕ) (s entry : State) (after : ℕ) → code < 31 → HasCode s → HasCode entry → HasCode (act a code s entry after)
act-code Ignore code s entry after new old entered = old
act-code Ok code s entry after new old entered = accepted-code s.impression s.status code old new
act-code Done code s entry after new old entered = accepted-code s.impression s.status code old new
act-code Bad code s entry after new old entered = refused-code s.impression s.status code old new
act-code Die code s entry after new old entered = refused-code s.impression s.status code old new
act-code Reset code s entry after new old entered = entered
act-code (Jump items) code s entry after new old entered =
    either-state (nat_le items after) s (state_with Negative perm_denied) old (omega arith)

module _ (answers : Assignment) where
  -- each module that is asked answers a code
  abbrev AnswerCodes : List Ask → Type 0
  AnswerCodes asks = (ask : Ask) → Member ask asks → answers ask.module_number < 31

  run-code : (skip : ℕ) (items : Items) (s entry : State) → AnswerCodes (asked_after skip items s entry answers) → HasCode s → HasCode entry →
      HasCode (run_after skip items s entry answers)
  unfolding run_after asked_after Member outcome_of
  run-code skip End s entry each old entered = old
  run-code (suc skip) (ThenModule m rest) s entry each old entered = run-code skip rest s entry each old entered
  run-code (suc skip) (ThenSub sub inner rest) s entry each old entered = run-code skip rest s entry each old entered
  run-code zero (ThenModule m rest) s entry each old entered =
      let ask = ask_of m rest s entry in
      let outcome = outcome_of ask (answers m.number) in
      run-code (count rest - outcome.left) rest outcome.state entry (λ other i. each other (inr i))
      (act-code (action_of m.control (answers m.number)) (answers m.number) s entry (count rest) (each ask (inl refl)) old entered) entered
  run-code zero (ThenSub sub inner rest) s entry each old entered =
      let first = asked_after zero inner s s answers in
      let after = run_after zero inner s s answers in
      let later = asked_after zero rest after entry answers in
      run-code zero rest after entry (λ ask i. each ask (Member-right ask first later i))
      (run-code zero inner s s (λ ask i. each ask (Member-left ask first later i)) old old) entered

decision-code : (i : Impression) (status : ℕ) → status < 31 → decision_by i status < 31
decision-code Positive status old = old
decision-code Undef status old = either-code (status == success) perm_denied status (omega arith) old
decision-code Negative status old = either-code (status == success) perm_denied status (omega arith) old

-- the decision of allowed answers is one of the codes
pub decides-code : (allows : Allowance) (items : Items) (answers : Assignment) → IsNumbered items → IsAllowed allows (module_count items) answers →
    is_in (decided items answers) all_codes ≡ true
unfolding decided
decides-code allows items answers numbered ok =
    let end = run_after 0 items start_state start_state answers in
    in_all (decision_by end.impression end.status)
    (decision-code end.impression end.status
    (run-code answers 0 items start_state start_state (λ ask i. (asked-own allows items answers numbered ok ask i).code) (omega arith) (omega arith)))
