-- Whether one of some codes jumps past the end of a list, code by code.
use Rattle.std.proofs.Common.{◌≡◌, ℕ, ◌+◌, ◌<◌, ◌||◌, ◌&&◌, Bool, true, false, List, None, Some, cond, slice_get, suc, zero}
use Rattle.std.proofs.Common.{refl, sym, ◌∙◌, ap, inl, inr, arith}
use Rattle.std.proofs.lemmas.Bool.{and_from, cases_eq, cases_lt, cond-false, cond-true, le-ltb, lt-ltb}
use Rattle.std.proofs.lemmas.Option.{get_or_from_slice_get}
use Rattle.std.specs.List.{list_any, range_with_len}
use Rattle.std.specs.Prelude.{nat_lt}
use Rattle.pam_codes.specs.Code.{all_codes}
use Rattle.pam_codes.specs.declared.action.Action.{Action}
use Rattle.pam_codes.specs.declared.action.Action.TheVariants.{Ignore}
use Rattle.pam_codes.specs.Set.{is_in}
use Rattle.pam_dispatch.specs.State.{action_of}
use Rattle.pam_paths.proofs.Alike.{Member-codes}
use Rattle.pam_graph.specs.PastEnds.{is_past_end}
use Rattle.pam_findings.specs.stack.inner.PastEnd.{can_pass}
use Rattle.pam_findings.proofs.StackProofs.WaysIn.{passing-any}

abbrev pub passes-at : List Action → List ℕ → ℕ → ℕ → Bool
passes-at control codes after code = is_in code codes && is_past_end after (action_of control code)

-- the code of a number
pub new-code : (number code : ℕ) → Some code ≡ cond (nat_lt number 31) (Some number) None → code ≡ number
new-code number code e =
    elim (cases_lt number 31) [
      | inl l ↦
          let is : Some code ≡ Some number = e ∙ cond-true (nat_lt number 31) (Some number) None (lt-ltb number 31 l) in
          let same : code ≡ number = cc in same
      | inr l ↦
          let is : Some code ≡ None = e ∙ cond-false (nat_lt number 31) (Some number) None (le-ltb number 31 l) in
          absurd (let k : ⊥ = cc in k)
    ]

pub new-none : (number : ℕ) → number < 31 → None ≡ cond (nat_lt number 31) (Some number) None → ⊥
new-none number l e =
    let is : None ≡ Some number = e ∙ cond-true (nat_lt number 31) (Some number) None (lt-ltb number 31 l) in
    let k : ⊥ = cc in k

none-in : (test : ℕ → Bool) (a n : ℕ) → ((code : ℕ) → code < a + n → test code ≡ false) → list_any test (range_with_len a n) ≡ false
none-in test a zero h = refl
none-in test a (suc n) h =
    ap (λ (t : Bool). t || list_any test (range_with_len (a + 1) n)) (h a (omega arith))
    ∙ none-in test (a + 1) n (λ code l. h code (omega (arith, l)))

and-false : (a : Bool) → (a && false) ≡ false
and-false true = refl
and-false false = refl

module _ (control : List Action) (codes : List ℕ) (after : ℕ) where
  -- a code jumps
  pub passes-one : (code : ℕ) (action : Action) → code < 31 → is_in code codes ≡ true → slice_get control code ≡ Some action →
      is_past_end after action ≡ true → true ≡ can_pass control codes after
  unfolding all_codes
  passes-one code action small among acts past =
      sym (passing-any (passes-at control codes after) (range_with_len 0 31) code (Member-codes 0 31 code (omega arith) (omega (arith, small)))
      (and_from (is_in code codes) (is_past_end after (action_of control code)) among
      (ap (is_past_end after) (get_or_from_slice_get control code action Ignore acts) ∙ past)))

  -- no code does
  pub passes-none : ((code : ℕ) → code < 31 → passes-at control codes after code ≡ false) → false ≡ can_pass control codes after
  unfolding all_codes
  passes-none h = sym (none-in (passes-at control codes after) 0 31 (λ code l. h code (omega (arith, l))))

  -- a code that is not in the set, or whose action does not jump
  pub not-among : (code : ℕ) → is_in code codes ≡ false → passes-at control codes after code ≡ false
  not-among code out = ap (λ (t : Bool). t && is_past_end after (action_of control code)) out

  pub not-past : (code : ℕ) (action : Action) → slice_get control code ≡ Some action → is_past_end after action ≡ false →
      passes-at control codes after code ≡ false
  not-past code action acts stays =
      ap (λ (t : Bool). is_in code codes && t) (ap (is_past_end after) (get_or_from_slice_get control code action Ignore acts) ∙ stays)
      ∙ and-false (is_in code codes)

  -- one code more
  pub none-more : (number code : ℕ) → ((k : ℕ) → k < number → passes-at control codes after k ≡ false) → passes-at control codes after number ≡ false →
      code < number + 1 → passes-at control codes after code ≡ false
  none-more number code before here l =
      elim (cases_eq code number) [
        | inl e ↦ ap (passes-at control codes after) e ∙ here
        | inr ne ↦ before code (omega (arith, l, ne))
      ]
