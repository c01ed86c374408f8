-- Equal rests of a run ask one module in one state, go on equally, and have one listing.
use Rattle.std.proofs.Common.{◌≡◌, ◌<◌, ◌≤◌, ℕ, Bool, ◌&&◌, List, [], ◌∷◌, ◌++◌, eqb, refl, sym, ◌∙◌, ap, cond, map, Some, subst}
use Rattle.std.proofs.Math.Path.{fun_ext}
use Rattle.std.specs.List.{list_any}
use Rattle.pam_codes.specs.Code.{all_codes}
use Rattle.pam_codes.specs.Set.{codes_where}
use Rattle.pam_dispatch.specs.declared.state.State.{State}
use Rattle.pam_dispatch.specs.declared.step.Outcome.{Outcome}
use Rattle.pam_dispatch.specs.Decision.{decision_of}
use Rattle.pam_dispatch.specs.Representatives.{AreEqualRests}
use Rattle.pam_dispatch.specs.Runs.{Ask, AsksRise, Runs, after_answer, asked_module, asks, ends, next_ask, outcome_of, state_in}
use Rattle.pam_graph.specs.inner.Building.{IsBefore}
use Rattle.pam_paths.specs.Classes.{class_at, class_of, least, same_outcome}
use Rattle.pam_paths.specs.Computed.{after_step, branches, is_offered, listing}
use Rattle.pam_paths.specs.Listing.{Allowance}
use Rattle.pam_paths.specs.Paths.{PathValue, StepValue, step_of}

module _ (allows : Allowance) (ask other : Ask) (one : ask.module_number ≡ other.module_number)
    (same : (code : ℕ) → outcome_of ask code ≡ outcome_of other code) where
  class-equal : (code : ℕ) → class_of ask code ≡ class_of other code
  unfolding class_at
  class-equal code =
      ap (class_at ask) (same code)
      ∙ ap codes_where (fun_ext (λ d. ap (same_outcome (outcome_of other code)) (same d)))

  offered-equal : (code : ℕ) → is_offered allows ask code ≡ is_offered allows other code
  unfolding is_offered
  offered-equal code =
      ap (λ (c : List ℕ). eqb (least c) code && list_any (allows ask.module_number) c) (class-equal code)
      ∙ ap (λ (n : ℕ). eqb (least (class_of other code)) code && list_any (allows n) (class_of other code)) one

  step-equal : (code : ℕ) → step_of ask code ≡ step_of other code
  step-equal code = ap (λ (n : ℕ). step n (class_of ask code)) one ∙ ap (step other.module_number) (class-equal code)
    where
      step : ℕ → List ℕ → StepValue
      step n c = record { module_number = n; class = c }

  branches-equal : (below more : Outcome → List PathValue) → ((o : Outcome) → below o ≡ more o) → (codes : List ℕ) →
      branches allows ask below codes ≡ branches allows other more codes
  unfolding branches
  branches-equal below more h [] = refl
  branches-equal below more h (code ∷ codes) =
      ap (λ (b : Bool). cond b (map (after_step (step_of ask code)) (below (outcome_of ask code))) [] ++ branches allows ask below codes) (offered-equal code)
      ∙ ap (λ (s : StepValue). cond (is_offered allows other code) (map (after_step s) (below (outcome_of ask code))) [] ++ branches allows ask below codes)
      (step-equal code)
      ∙ ap (λ (ps : List PathValue). cond (is_offered allows other code) (map (after_step (step_of other code)) ps) [] ++ branches allows ask below codes)
      (ap below (same code) ∙ h (outcome_of other code))
      ∙ ap (λ (ps : List PathValue). cond (is_offered allows other code) (map (after_step (step_of other code)) (more (outcome_of other code))) [] ++ ps)
      (branches-equal below more h codes)

pub listing-equal : (allows : Allowance) (one other : Runs) → AreEqualRests one other → listing allows one ≡ listing allows other
unfolding listing AreEqualRests
listing-equal allows (ends s) (ends t) h = ap (λ (n : ℕ). path n ∷ []) (ap decision_of h)
  where
    path : ℕ → PathValue
    path n = record { steps = []; decision = n }
listing-equal allows (ends s) (asks ask next) h = absurd h
listing-equal allows (asks ask next) (ends t) h = absurd h
listing-equal allows (asks ask next) (asks other later) h =
    branches-equal allows ask other h.0 h.2 (λ o. listing allows (next o)) (λ o. listing allows (later o))
    (λ o. listing-equal allows (next o) (later o) (h.3 o)) all_codes

pub asked-equal : (one other : Runs) → AreEqualRests one other → asked_module one ≡ asked_module other
unfolding AreEqualRests
asked-equal (ends s) (ends t) h = refl
asked-equal (ends s) (asks ask next) h = absurd h
asked-equal (asks ask next) (ends t) h = absurd h
asked-equal (asks ask next) (asks other later) h = ap (λ (n : ℕ). Some n) h.0

pub state-equal : (one other : Runs) → AreEqualRests one other → state_in one ≡ state_in other
unfolding AreEqualRests
state-equal (ends s) (ends t) h = h
state-equal (ends s) (asks ask next) h = absurd h
state-equal (asks ask next) (ends t) h = absurd h
state-equal (asks ask next) (asks other later) h = h.1

pub rise-equal : (low high : ℕ) (one other : Runs) → AreEqualRests one other → AsksRise low high other → AsksRise low high one
unfolding AreEqualRests AsksRise
rise-equal low high (ends s) (ends t) h rise = tt
rise-equal low high (ends s) (asks ask next) h rise = absurd h
rise-equal low high (asks ask next) (ends t) h rise = absurd h
rise-equal low high (asks ask next) (asks other later) h rise = (
  subst (λ (n : ℕ). low < n) (sym h.0) rise.0,
  subst (λ (n : ℕ). n ≤ high) (sym h.0) rise.1,
  λ o. subst (λ (n : ℕ). AsksRise n high (next o)) (sym h.0) (rise-equal other.module_number high (next o) (later o) (h.3 o) (rise.2 o)),
)

pub before-equal : (earlier one other : Runs) → AreEqualRests one other → IsBefore earlier other → IsBefore earlier one
unfolding AreEqualRests
before-equal (ends s) one other h before = absurd before
before-equal (asks ask next) (ends s) (ends t) h before = tt
before-equal (asks ask next) (ends s) (asks other later) h before = absurd h
before-equal (asks ask next) (asks one more) (ends t) h before = absurd h
before-equal (asks ask next) (asks one more) (asks other later) h before = subst (λ (n : ℕ). ask.module_number < n) (sym h.0) before

pub equal-sym : (one other : Runs) → AreEqualRests one other → AreEqualRests other one
unfolding AreEqualRests
equal-sym (ends s) (ends t) h = sym h
equal-sym (ends s) (asks ask next) h = absurd h
equal-sym (asks ask next) (ends t) h = absurd h
equal-sym (asks ask next) (asks other later) h =
    (sym h.0, sym h.1, λ code. sym (h.2 code), λ o. equal-sym (next o) (later o) (h.3 o))

pub equal-trans : (one two three : Runs) → AreEqualRests one two → AreEqualRests two three → AreEqualRests one three
unfolding AreEqualRests
equal-trans (ends s) (ends t) (ends u) h k = h ∙ k
equal-trans (ends s) (ends t) (asks third last) h k = absurd k
equal-trans (ends s) (asks other later) three h k = absurd h
equal-trans (asks ask next) (ends t) three h k = absurd h
equal-trans (asks ask next) (asks other later) (ends u) h k = absurd k
equal-trans (asks ask next) (asks other later) (asks third last) h k =
    (h.0 ∙ k.0, h.1 ∙ k.1, λ code. h.2 code ∙ k.2 code, λ o. equal-trans (next o) (later o) (last o) (h.3 o) (k.3 o))

-- so are the rests after an answer
pub after-equal : (one other : Runs) (code : ℕ) → AreEqualRests one other → AreEqualRests (after_answer one code) (after_answer other code)
unfolding AreEqualRests
after-equal (ends s) (ends t) code h = h
after-equal (ends s) (asks ask next) code h = absurd h
after-equal (asks ask next) (ends t) code h = absurd h
after-equal (asks ask next) (asks other later) code h =
    subst (λ (o : Outcome). AreEqualRests (next (outcome_of ask code)) (later o)) (h.2 code) (h.3 (outcome_of ask code))

-- and the classes of answers
pub classes-equal : (allows : Allowance) (one other : Runs) (code : ℕ) → AreEqualRests one other →
    class_of (next_ask one) code ≡ class_of (next_ask other) code
unfolding AreEqualRests
classes-equal allows (ends s) (ends t) code h = ap (λ (u : State). class_of (next_ask (ends u)) code) h
classes-equal allows (ends s) (asks ask next) code h = absurd h
classes-equal allows (asks ask next) (ends t) code h = absurd h
classes-equal allows (asks ask next) (asks other later) code h = class-equal allows ask other h.0 h.2 code
