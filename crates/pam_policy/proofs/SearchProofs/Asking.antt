-- A run ends well, from the first state of a query on, if and only if it does what the query asks for.
use Rattle.std.proofs.Common.{◌≡◌, ℕ, ◌≤◌, Bool, true, false, List, [], ◌∷◌, inl, inr, refl, sym, ◌∙◌, ap, subst, cond, Option, None, Some, arith}
use Rattle.std.proofs.lemmas.Bool.{and_from, and_parts, cases_Bool, eq-eqb, eqb-true, false≢true}
use Rattle.std.specs.Prelude.{◌==◌}
use Rattle.arrayvec.specs.ArrayVec.{ArrayVec}
use Rattle.pam_codes.specs.Set.{is_in}
use Rattle.pam_conf.specs.Stack.{Items}
use Rattle.pam_dispatch.specs.Runs.{Assignment}
use Rattle.pam_dispatch.specs.Tree.{decided}
use Rattle.pam_policy.specs.declared.search.marks.Marks.{Marks}
use Rattle.pam_policy.specs.declared.search.query.Query.{Query}
use Rattle.pam_policy.specs.declared.search.query.Query.TheVariants.{Together, Before}
use Rattle.pam_policy.specs.declared.search.run.Step.{Step}
use Rattle.pam_policy.specs.search.inner.Monitor.{EndsWell, after, all_missing, first_state, missing_after}
use Rattle.pam_policy.specs.search.Marks.{codes_at}
use Rattle.pam_policy.specs.search.Queries.{Does}
use Rattle.pam_policy.specs.search.Runs.{run_of}
use Rattle.pam_policy.proofs.SearchProofs.Digits.{Covers, all-covered, covers-all, covers-end, covers-less, covers-more, covers-zero, has, missing-most}
use Rattle.pam_policy.proofs.SearchProofs.Events.{HappensBefore, HappensIn, all-in, all-of, before-cases, before-here, before-in, before-later}
use Rattle.pam_policy.proofs.SearchProofs.Events.{before-none, before-of, happens-cases, happens-here, happens-later, happens-none, in-steps, of-steps}

-- EVENTS TOGETHER

-- the steps of a run have what is missing, and nothing that is barred
record Accepts (wanted : List Marks) (barred : Marks) (decisions : List ℕ) (missing : ℕ) (steps : List Step) (decision : ℕ) : Type 0 where
  pub covers : Covers wanted missing steps
  pub barred_not : HappensIn barred steps → ⊥
  pub decides : is_in decision decisions ≡ true

free-some : (barred : Bool) (state next : ℕ) → cond barred None (Some state) ≡ Some next → (barred ≡ false) × (state ≡ next)
free-some true state next e = absurd (let k : ⊥ = cc in k)
free-some false state next e = (refl, cc)

module _ (wanted : ArrayVec Marks) (barred : Marks) (decisions : List ℕ) where
  abbrev together : Query
  together = Together wanted barred decisions

  ends-accepts : (steps : List Step) (missing decision : ℕ) → EndsWell together missing steps decision →
      Accepts wanted.items barred decisions missing steps decision
  unfolding EndsWell
  ends-accepts [] missing decision h =
      let parts = and_parts (missing == 0) (is_in decision decisions) h in
      record {
        covers = subst (λ (n : ℕ). Covers wanted.items n []) (sym (eqb-true missing 0 parts.0)) (covers-zero wanted.items []);
        barred_not = happens-none barred;
        decides = parts.1;
      }
  ends-accepts (step ∷ steps) missing decision h =
      let free = free-some (has barred step) (missing_after wanted.items step.module_number step.code missing) h.0 h.1 in
      let later = ends-accepts steps h.0 decision h.2 in
      record {
        covers = covers-more wanted.items missing step steps (subst (λ (n : ℕ). Covers wanted.items n steps) (sym free.1) later.covers);
        barred_not = λ k. elim (happens-cases barred step steps k) [
          | inl by ↦ false≢true (sym free.0 ∙ by.here)
          | inr i ↦ later.barred_not i
        ];
        decides = later.decides;
      }

  accepts-ends : (steps : List Step) (missing decision : ℕ) → missing ≤ all_missing wanted.items →
      Accepts wanted.items barred decisions missing steps decision → EndsWell together missing steps decision
  unfolding EndsWell
  accepts-ends [] missing decision low a =
      and_from (missing == 0) (is_in decision decisions) (eq-eqb missing 0 (covers-end wanted.items missing low a.covers)) a.decides
  accepts-ends (step ∷ steps) missing decision low a =
      let next : ℕ = missing_after wanted.items step.module_number step.code missing in
      elim (cases_Bool (has barred step)) [
        | inl t ↦ absurd (a.barred_not (happens-here barred step steps (record { here = t })))
        | inr f ↦ (
          next,
          ap (λ (b : Bool). cond b None (Some next)) f,
          accepts-ends steps next decision (missing-most wanted.items step.module_number step.code missing) (record {
            covers = covers-less wanted.items missing step steps a.covers;
            barred_not = λ k. a.barred_not (happens-later barred step steps k);
            decides = a.decides;
          }),
        )
      ]

-- EVENTS IN ORDER

-- the state after an answer while the monitor waits
abbrev awaited : Bool → Bool → Option ℕ
awaited here barred = cond here (Some 0) (cond barred None (Some 1))

module _ (first second : Marks) (decision : ℕ) where
  abbrev before : Query
  before = Before first second

  done-ends : (steps : List Step) → EndsWell before 0 steps decision
  unfolding EndsWell
  done-ends [] = refl
  done-ends (step ∷ steps) = (0, refl, done-ends steps)

  awaited-free : (barred : Bool) (next : ℕ) → awaited false barred ≡ Some next → (barred ≡ false) × (1 ≡ next)
  awaited-free barred next e = free-some barred 1 next e

  ends-happens : (steps : List Step) → EndsWell before 1 steps decision → HappensBefore first second steps
  unfolding EndsWell
  ends-happens [] h = absurd (false≢true h)
  ends-happens (step ∷ steps) h =
      elim (cases_Bool (has second step)) [
        | inl t ↦ before-here first second step steps (record { here = t })
        | inr f ↦
            let free = awaited-free (has first step) h.0 (ap (λ (b : Bool). awaited b (has first step)) (sym f) ∙ h.1) in
            before-later first second step steps (λ by. false≢true (sym free.0 ∙ by.here))
            (ends-happens steps (subst (λ (n : ℕ). EndsWell before n steps decision) (sym free.1) h.2))
      ]

  happens-ends : (steps : List Step) → HappensBefore first second steps → EndsWell before 1 steps decision
  unfolding EndsWell
  happens-ends [] h = absurd (before-none first second h)
  happens-ends (step ∷ steps) h =
      elim (cases_Bool (has second step)) [
        | inl t ↦ (0, ap (λ (b : Bool). awaited b (has first step)) t, done-ends steps)
        | inr f ↦ elim (before-cases first second step steps h) [
          | inl by ↦ absurd (false≢true (sym f ∙ by.here))
          | inr k ↦ elim (cases_Bool (has first step)) [
            | inl t ↦ absurd (k.0 (record { here = t }))
            | inr g ↦ (
              1,
              ap (λ (b : Bool). awaited b (has first step)) f ∙ ap (awaited false) g,
              happens-ends steps k.1,
            )
          ]
        ]
      ]

-- A RUN DOES WHAT A QUERY ASKS FOR

module _ (items : Items) (answers : Assignment) where
  pub ends-does : (query : Query) → EndsWell query (first_state query) (run_of items answers).steps (decided items answers) → Does items query answers
  ends-does (Together wanted barred decisions) h =
      let a = ends-accepts wanted barred decisions (run_of items answers).steps (all_missing wanted.items) (decided items answers) h in
      record {
        decides = a.decides;
        wanted_happen = all-of items answers wanted.items (all-covered wanted.items (run_of items answers).steps a.covers);
        barred_not = λ k. a.barred_not (in-steps items answers barred k);
      }
  ends-does (Before first second) h =
      before-of items answers first second (ends-happens first second (decided items answers) (run_of items answers).steps h)

  pub does-ends : (query : Query) → Does items query answers → EndsWell query (first_state query) (run_of items answers).steps (decided items answers)
  does-ends (Together wanted barred decisions) h =
      let most : all_missing wanted.items ≤ all_missing wanted.items = omega arith in
      accepts-ends wanted barred decisions (run_of items answers).steps (all_missing wanted.items) (decided items answers) most (record {
        covers = covers-all wanted.items (run_of items answers).steps (all-in items answers wanted.items h.wanted_happen);
        barred_not = λ k. h.barred_not (of-steps items answers barred k);
        decides = h.decides;
      })
  does-ends (Before first second) h =
      happens-ends first second (decided items answers) (run_of items answers).steps (before-in items answers first second h)

-- THE STATES OF A QUERY are at most its first

pub after-most : (query : Query) (number code state next : ℕ) → state ≤ first_state query → after query number code state ≡ Some next →
    next ≤ first_state query
after-most (Together wanted barred decisions) number code state next low e =
    let free = free-some (is_in code (codes_at barred number)) (missing_after wanted.items number code state) next e in
    omega (arith, free.1, missing-most wanted.items number code state)
after-most (Before first second) number code state next low e =
    elim (cases_Bool (state == 0)) [
      | inl t ↦ few next (ap (λ (b : Bool). cond b (Some 0) (awaited (is_in code (codes_at second number)) (is_in code (codes_at first number)))) (sym t) ∙ e)
      | inr f ↦ waits (is_in code (codes_at second number)) (is_in code (codes_at first number)) next
          (ap (λ (b : Bool). cond b (Some 0) (awaited (is_in code (codes_at second number)) (is_in code (codes_at first number)))) (sym f) ∙ e)
    ]
  where
    few : (next : ℕ) → Some 0 ≡ Some next → next ≤ 1
    few next e = let same : 0 ≡ next = cc in omega (arith, same)

    waits : (here barred : Bool) (next : ℕ) → awaited here barred ≡ Some next → next ≤ 1
    waits true barred next e = few next e
    waits false true next e = absurd (let k : ⊥ = cc in k)
    waits false false next e = let same : 1 ≡ next = cc in omega (arith, same)
