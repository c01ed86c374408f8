-- The modules that a run asks, one step at a time. A loop that begins at `Program::first`, steps by the answer of each
-- module that `Place::module` names, and stops at `None` visits those of `asked_by` in order.
use Rattle.std.proofs.Common.{◌≡◌, ℕ, ◌<◌, ◌≤◌, List, [], ◌∷◌, Option, Some, None, length, arith, refl, sym, ◌∙◌, ap, subst}
use Rattle.std.specs.Prelude.{IfSome, IsSome}
use Rattle.pam_dispatch.specs.Runs.{Ask, Assignment, AsksRise, Runs, ends, asks, after_answer, asked_by, asked_module, final_state, next_ask}
use Rattle.pam_dispatch.specs.Runs.{outcome_in, outcome_of, state_in}

-- the number in an option, or 0
abbrev number_in : Option ℕ → ℕ
number_in None = 0
number_in (Some number) = number

module _ (answers : Assignment) where
  -- at the end nothing more is asked, and the state stays
  pub asked_by-end : (runs : Runs) → asked_module runs ≡ None → asked_by runs answers ≡ []
  unfolding asked_by
  asked_by-end (ends s) h = refl
  asked_by-end (asks ask next) h = cc

  pub final_state-end : (runs : Runs) → asked_module runs ≡ None → final_state runs answers ≡ state_in runs
  unfolding final_state
  final_state-end (ends s) h = refl
  final_state-end (asks ask next) h = cc

  -- a module is asked, and then what the run after its answer asks
  pub asked_by-step : (runs : Runs) (number : ℕ) → asked_module runs ≡ Some number →
      asked_by runs answers ≡ next_ask runs ∷ asked_by (after_answer runs (answers number)) answers
  unfolding asked_by
  asked_by-step (ends s) number h = cc
  asked_by-step (asks ask next) number h =
      ap (λ (n : ℕ). ask ∷ asked_by (next (outcome_of ask (answers n))) answers) (ap number_in h)

  -- and the run after its answer ends like the whole run
  pub final_state-step : (runs : Runs) (number : ℕ) → asked_module runs ≡ Some number →
      final_state (after_answer runs (answers number)) answers ≡ final_state runs answers
  unfolding final_state
  final_state-step (ends s) number h = cc
  final_state-step (asks ask next) number h =
      sym (ap (λ (n : ℕ). final_state (next (outcome_of ask (answers n))) answers) (ap number_in h))

  -- the run after a module's answer ends like the whole run, and asks less
  module _ (runs next : Runs) (number code : ℕ) (asked : asked_module runs ≡ Some number) (is : answers number ≡ code)
      (follows : next ≡ after_answer runs code) where
    follows_answer : next ≡ after_answer runs (answers number)
    follows_answer = follows ∙ sym (ap (λ (x : ℕ). after_answer runs x) is)

    pub final_state-follows : final_state next answers ≡ final_state runs answers
    final_state-follows = ap (λ (r : Runs). final_state r answers) follows_answer ∙ final_state-step runs number asked

    pub asked_by-follows : length (asked_by next answers) < length (asked_by runs answers)
    asked_by-follows =
        let one = ap (λ (x : List Ask). length x) (asked_by-step runs number asked) in
        let same = ap (λ (r : Runs). length (asked_by r answers)) follows_answer in
        omega (arith, one, same)

-- how a module is asked
pub number-next_ask : (runs : Runs) (number : ℕ) → asked_module runs ≡ Some number → (next_ask runs).module_number ≡ number
number-next_ask (ends s) number h = cc
number-next_ask (asks ask next) number h = ap number_in h

pub state-next_ask : (runs : Runs) → (next_ask runs).state ≡ state_in runs
state-next_ask (ends s) = refl
state-next_ask (asks ask next) = refl

pub outcome_in-next_ask : (runs : Runs) (number code : ℕ) → asked_module runs ≡ Some number → outcome_in runs code ≡ outcome_of (next_ask runs) code
outcome_in-next_ask (ends s) number code h = cc
outcome_in-next_ask (asks ask next) number code h = refl

-- the numbers of the modules asked rise
pub AsksRise-step : (low high : ℕ) (runs : Runs) (number : ℕ) → AsksRise low high runs → asked_module runs ≡ Some number →
    (low < number) × (number ≤ high) × ((code : ℕ) → AsksRise number high (after_answer runs code))
unfolding AsksRise
AsksRise-step low high (ends s) number rise h = cc
AsksRise-step low high (asks ask next) number rise h =
    subst (λ n. (low < n) × (n ≤ high) × ((code : ℕ) → AsksRise n high (next (outcome_of ask code)))) (ap number_in h)
    (rise.0, rise.1, λ code. rise.2 (outcome_of ask code))

-- the same, if the module that is asked answers a code
module _ (answers : Assignment) (code : ℕ) where
  pub final_state-answer : (runs : Runs) → IfSome (asked_module runs) (λ number. answers number ≡ code) →
      final_state (after_answer runs code) answers ≡ final_state runs answers
  unfolding final_state
  final_state-answer (ends s) h = refl
  final_state-answer (asks ask next) h = sym (ap (λ (x : ℕ). final_state (next (outcome_of ask x)) answers) h)

  pub asked_by-answer : (runs : Runs) → IsSome (asked_module runs) → IfSome (asked_module runs) (λ number. answers number ≡ code) →
      asked_by runs answers ≡ next_ask runs ∷ asked_by (after_answer runs code) answers
  unfolding asked_by
  asked_by-answer (ends s) some h = cc
  asked_by-answer (asks ask next) some h = ap (λ (x : ℕ). ask ∷ asked_by (next (outcome_of ask x)) answers) h
