-- The order in which the runs of a stack are shown.
use Rattle.std.proofs.Common.{◌≡◌, ◌⊎◌, ℕ, ◌<◌, Bool, true, false, List, [], ◌∷◌, inl, inr, refl, sym, ◌∙◌, ap, subst, cond, arith, ltb}
use Rattle.std.proofs.lemmas.Bool.{cases_lt, le-ltb, lt-ltb}
use Rattle.pam_conf.specs.Stack.{Items}
use Rattle.pam_dispatch.specs.Runs.{Assignment, Runs, asked_by, asks, ends, final_state, outcome_of}
use Rattle.pam_dispatch.specs.Tree.{runs_of_stack}
use Rattle.pam_policy.specs.declared.search.run.Step.{Step}
use Rattle.pam_policy.specs.rules.inner.Choosing.{comes_before}
use Rattle.pam_policy.specs.search.Runs.{ComesBefore, RunValue, rank, run_of, step_by}
use Rattle.pam_policy.proofs.SearchProofs.Along.{after_first, run_by, run-stack}
use Rattle.pam_policy.proofs.SearchProofs.Ranks.{rank-same}

-- one run is shown before another, or is the other
abbrev pub IsAtMost : RunValue → RunValue → Type 0
IsAtMost run other = (run ≡ other) ⊎ ComesBefore run.steps other.steps

before-trans : (a b c : List Step) → ComesBefore a b → ComesBefore b c → ComesBefore a c
unfolding ComesBefore
before-trans [] b c h k = absurd h
before-trans (x ∷ a) [] c h k = absurd h
before-trans (x ∷ a) (y ∷ b) [] h k = absurd k
before-trans (x ∷ a) (y ∷ b) (z ∷ c) (inl l) (inl m) = inl (omega (arith, l, m))
before-trans (x ∷ a) (y ∷ b) (z ∷ c) (inl l) (inr m) = inl (subst (λ (s : Step). rank x.code < rank s.code) m.0 l)
before-trans (x ∷ a) (y ∷ b) (z ∷ c) (inr l) (inl m) = inl (subst (λ (s : Step). rank s.code < rank z.code) (sym l.0) m)
before-trans (x ∷ a) (y ∷ b) (z ∷ c) (inr l) (inr m) = inr (l.0 ∙ m.0, before-trans a b c l.1 m.1)

pub most-trans : (a b c : RunValue) → IsAtMost a b → IsAtMost b c → IsAtMost a c
most-trans a b c (inl e) h = subst (λ (r : RunValue). IsAtMost r c) (sym e) h
most-trans a b c (inr l) (inl e) = inr (subst (λ (r : RunValue). ComesBefore a.steps r.steps) e l)
most-trans a b c (inr l) (inr m) = inr (before-trans a.steps b.steps c.steps l m)

-- what the test of two runs tells
unfoldable pub Tells : Bool → RunValue → RunValue → Type 0
Tells test run other = ((test ≡ true) × ComesBefore run.steps other.steps) ⊎ ((test ≡ false) × IsAtMost other run)

pub tell-first : (step other : Step) (steps others : List Step) → rank step.code < rank other.code →
    comes_before (step ∷ steps) (other ∷ others) ≡ true
tell-first step other steps others l =
    ap (λ (t : Bool). cond t true (cond (ltb (rank other.code) (rank step.code)) false (comes_before steps others)))
    (lt-ltb (rank step.code) (rank other.code) l)

pub tell-last : (step other : Step) (steps others : List Step) → rank other.code < rank step.code →
    comes_before (step ∷ steps) (other ∷ others) ≡ false
tell-last step other steps others l =
    ap (λ (t : Bool). cond t true (cond (ltb (rank other.code) (rank step.code)) false (comes_before steps others)))
    (le-ltb (rank step.code) (rank other.code) (omega (arith, l)))
    ∙ ap (λ (t : Bool). cond t false (comes_before steps others)) (lt-ltb (rank other.code) (rank step.code) l)

pub tell-later : (step other : Step) (steps others : List Step) → rank step.code ≡ rank other.code →
    comes_before (step ∷ steps) (other ∷ others) ≡ comes_before steps others
tell-later step other steps others same =
    ap (λ (t : Bool). cond t true (cond (ltb (rank other.code) (rank step.code)) false (comes_before steps others)))
    (le-ltb (rank step.code) (rank other.code) (omega (arith, same)))
    ∙ ap (λ (t : Bool). cond t false (comes_before steps others)) (le-ltb (rank other.code) (rank step.code) (omega (arith, same)))

abbrev before_by : RunValue → RunValue → Bool
before_by run other = comes_before run.steps other.steps

-- after a first step that is the same
tell-same : (step : Step) (run other : RunValue) → Tells (before_by run other) run other →
    Tells (before_by (after_first step run) (after_first step other)) (after_first step run) (after_first step other)
unfolding Tells ComesBefore
tell-same step run other (inl h) = inl (tell-later step step run.steps other.steps refl ∙ h.0, inr (refl, h.1))
tell-same step run other (inr h) =
    inr (
      tell-later step step run.steps other.steps refl ∙ h.0,
      elim h.1 [ inl e ↦ inl (ap (after_first step) e) | inr l ↦ inr (inr (refl, l)) ],
    )

tell-less : (step other : Step) (a b : RunValue) → rank step.code < rank other.code →
    Tells (before_by (after_first step a) (after_first other b)) (after_first step a) (after_first other b)
unfolding Tells ComesBefore
tell-less step other a b l = inl (tell-first step other a.steps b.steps l, inl l)

tell-more : (step other : Step) (a b : RunValue) → rank other.code < rank step.code →
    Tells (before_by (after_first step a) (after_first other b)) (after_first step a) (after_first other b)
unfolding Tells ComesBefore
tell-more step other a b l = inr (tell-last step other a.steps b.steps l, inr (inl l))

tell-end : (decision : ℕ) → Tells false (record { steps = []; decision = decision }) (record { steps = []; decision = decision })
unfolding Tells
tell-end decision = inr (refl, inl refl)

-- THE TEST TELLS which of two runs of a stack is shown first
tell-runs : (runs : Runs) (a b : Assignment) → Tells (before_by (run_by runs a) (run_by runs b)) (run_by runs a) (run_by runs b)
unfolding asked_by final_state
tell-runs (ends s) a b = tell-end (run_by (ends s) a).decision
tell-runs (asks ask next) a b =
    let m = ask.module_number in
    let rest = next (outcome_of ask (a m)) in
    elim (cases_lt (rank (a m)) (rank (b m))) [
      | inl l ↦ tell-less (step_by a ask) (step_by b ask) (run_by rest a) (run_by (next (outcome_of ask (b m))) b) l
      | inr low ↦ elim (cases_lt (rank (b m)) (rank (a m))) [
        | inl l ↦ tell-more (step_by a ask) (step_by b ask) (run_by rest a) (run_by (next (outcome_of ask (b m))) b) l
        | inr high ↦
            let same : a m ≡ b m = rank-same (a m) (b m) (omega (arith, low, high)) in
            let there : ℕ → RunValue = λ c. after_first (record { module_number = m; code = c }) (run_by (next (outcome_of ask c)) b) in
            subst (λ (r : RunValue). Tells (before_by (after_first (step_by a ask) (run_by rest a)) r) (after_first (step_by a ask) (run_by rest a)) r)
            (ap there same)
            (tell-same (step_by a ask) (run_by rest a) (run_by rest b) (tell-runs (next (outcome_of ask (a ask.module_number))) a b))
      ]
    ]

pub tell-stack : (items : Items) (a b : Assignment) → Tells (before_by (run_of items a) (run_of items b)) (run_of items a) (run_of items b)
tell-stack items a b =
    subst (λ (r : RunValue). Tells (before_by r (run_of items b)) r (run_of items b)) (run-stack items a)
    (subst (λ (r : RunValue). Tells (before_by (run_by (runs_of_stack items) a) r) (run_by (runs_of_stack items) a) r) (run-stack items b)
    (tell-runs (runs_of_stack items) a b))
