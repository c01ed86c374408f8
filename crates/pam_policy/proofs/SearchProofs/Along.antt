-- The runs along the walks of a stack's graph are the runs of allowed answers.
use Rattle.std.proofs.Common.{◌≡◌, ℕ, ◌<◌, true, List, [], ◌∷◌, refl, sym, ◌∙◌, ap, subst, arith, map, inl, inr}
use Rattle.std.proofs.lemmas.Bool.{cases_eq}
use Rattle.pam_conf.specs.Stack.{Items, module_count}
use Rattle.pam_dispatch.specs.declared.step.Outcome.{Outcome}
use Rattle.pam_dispatch.specs.Decision.{decision_of}
use Rattle.pam_dispatch.specs.Runs.{Ask, Assignment, AsksRise, Runs, asked_by, asks, ends, final_state, outcome_of}
use Rattle.pam_dispatch.specs.Tree.{decided, runs_of_stack}
use Rattle.pam_dispatch.proofs.Numbering.{AsksRise-stack}
use Rattle.pam_dispatch.proofs.OpenRuns.{asked_by-runs_of_stack, decision_of-runs_of_stack}
use Rattle.pam_graph.specs.Walks.{GraphValue, walks}
use Rattle.pam_paths.specs.Classes.{class_of}
use Rattle.pam_paths.specs.Listing.{Allowance, IsAllowed}
use Rattle.pam_paths.specs.Paths.{PathValue, StepValue, path_through, step_by as class_by}
use Rattle.pam_paths.proofs.Alike.{in_class, of_class}
use Rattle.pam_paths.proofs.Listings.{with_answer, with_answer-at, with_answer-other}
use Rattle.pam_paths.proofs.Sharing.{Member-is_in, is_in-Member}
use Rattle.pam_policy.specs.declared.search.query.Query.{Query}
use Rattle.pam_policy.specs.declared.search.run.Step.{Step}
use Rattle.pam_policy.specs.search.inner.Distances.{AreChosen, GoodAlong}
use Rattle.pam_policy.specs.search.inner.Monitor.{EndsWell, first_state}
use Rattle.pam_policy.specs.search.Runs.{RunValue, run_of, step_by}
use Rattle.pam_policy.specs.search.Witness.{IsFound, IsGraphOf}
use Rattle.pam_policy.proofs.SearchProofs.Asking.{does-ends, ends-does}

-- the run through an open run, and the classes of its answers
abbrev pub run_by : Runs → Assignment → RunValue
run_by runs answers = record { steps = map (step_by answers) (asked_by runs answers); decision = decision_of (final_state runs answers) }

abbrev classes_by : Runs → Assignment → List StepValue
classes_by runs answers = map (class_by answers) (asked_by runs answers)

abbrev pub whole : List Step → ℕ → RunValue
whole steps decision = record { steps = steps; decision = decision }

abbrev pub after_first : Step → RunValue → RunValue
after_first step run = record { steps = step ∷ run.steps; decision = run.decision }

module _ (n : ℕ) where
  -- answers that are the same from a number on make the same run
  run-same : (low : ℕ) (runs : Runs) (a b : Assignment) → AsksRise low n runs → ((k : ℕ) → low < k → a k ≡ b k) → run_by runs a ≡ run_by runs b
  unfolding AsksRise asked_by final_state
  run-same low (ends s) a b h same = refl
  run-same low (asks ask next) a b h same =
      let m = ask.module_number in
      let e : a m ≡ b m = same m h.0 in
      let later : (k : ℕ) → m < k → a k ≡ b k = λ k l. same k (omega (arith, h.0, l)) in
      ap (after_first (step_by a ask)) (run-same m (next (outcome_of ask (a m))) a b (h.2 (outcome_of ask (a m))) later)
      ∙ ap (λ (c : ℕ). after_first (record { module_number = m; code = c }) (run_by (next (outcome_of ask c)) b)) e

  module _ (allows : Allowance) where
    -- an allowed assignment chooses its own answers
    own-chosen : (low : ℕ) (runs : Runs) (a : Assignment) → AsksRise low n runs → IsAllowed allows n a →
        AreChosen allows (classes_by runs a) (run_by runs a).steps
    unfolding AsksRise asked_by final_state AreChosen
    own-chosen low (ends s) a h ok = tt
    own-chosen low (asks ask next) a h ok =
        let m = ask.module_number in
        let may = ok m (omega (arith, h.0)) h.1 in (
          refl,
          record { is_code = may.0; allowed = may.1; among = is_in-Member (class_of ask (a m)) (a m) (in_class ask (a m) (a m) may.0 refl) },
          own-chosen m (next (outcome_of ask (a m))) a (h.2 (outcome_of ask (a m))) ok,
        )

    -- the run of chosen answers
    record Chosen (runs : Runs) (a : Assignment) (steps : List Step) : Type 0 where
      pub answers : Assignment
      pub allowed : IsAllowed allows n answers
      pub is_run : run_by runs answers ≡ record { steps = steps; decision = decision_of (final_state runs a) }

    changed-allowed : (m code : ℕ) (a : Assignment) → IsAllowed allows n a → code < 31 → allows m code ≡ true → IsAllowed allows n (with_answer a m code)
    changed-allowed m code a ok low may k from to =
        elim (cases_eq k m) [
          | inl e ↦ subst (λ (x : ℕ). (x < 31) × (allows k x ≡ true)) (sym (ap (with_answer a m code) e ∙ with_answer-at a m code))
              (low, ap (λ (x : ℕ). allows x code) e ∙ may)
          | inr ne ↦ subst (λ (x : ℕ). (x < 31) × (allows k x ≡ true)) (sym (with_answer-other a m code k ne)) (ok k from to)
        ]

    choose : (low : ℕ) (runs : Runs) (a : Assignment) (steps : List Step) → AsksRise low n runs → IsAllowed allows n a →
        AreChosen allows (classes_by runs a) steps → Chosen runs a steps
    unfolding AsksRise asked_by final_state AreChosen
    choose low (ends s) a [] h ok chosen = record { answers = a; allowed = ok; is_run = refl }
    choose low (ends s) a (step ∷ steps) h ok chosen = absurd chosen
    choose low (asks ask next) a [] h ok chosen = absurd chosen
    choose low (asks ask next) a (step ∷ steps) h ok chosen =
        let m = ask.module_number in
        let code = step.code in
        let rest = next (outcome_of ask (a m)) in
        let again = choose m rest a steps (h.2 (outcome_of ask (a m))) ok chosen.2 in
        let alike : outcome_of ask (a m) ≡ outcome_of ask code = (of_class ask (a m) code (Member-is_in (class_of ask (a m)) code chosen.1.among)).1 in
        let b = with_answer again.answers m code in
        let at : b m ≡ code = with_answer-at again.answers m code in
        let same : run_by rest b ≡ run_by rest again.answers =
        run-same m rest b again.answers (h.2 (outcome_of ask (a m))) (λ k l. with_answer-other again.answers m code k (λ e. omega (arith, l, e))) in
        record {
          answers = b;
          allowed = changed-allowed m code again.answers again.allowed chosen.1.is_code chosen.1.allowed;
          is_run = ap (λ (c : ℕ). after_first (record { module_number = m; code = c }) (run_by (next (outcome_of ask c)) b)) at
              ∙ ap (λ (o : Outcome). after_first (record { module_number = m; code = code }) (run_by (next o) b)) (sym alike)
              ∙ ap (after_first (record { module_number = m; code = code })) (same ∙ again.is_run)
              ∙ ap (λ (k : ℕ). after_first (record { module_number = k; code = code }) (record { steps = steps; decision = decision_of (final_state rest a) }))
              (sym chosen.0);
        }

-- THE RUNS OF A STACK

pub run-stack : (items : Items) (answers : Assignment) → run_by (runs_of_stack items) answers ≡ run_of items answers
run-stack items answers =
    ap (λ (asks : List Ask). whole (map (step_by answers) asks) (decision_of (final_state (runs_of_stack items) answers)))
    (asked_by-runs_of_stack items answers)
    ∙ ap (whole (run_of items answers).steps) (decision_of-runs_of_stack items answers)

module _ (allows : Allowance) (items : Items) (graph : GraphValue) (query : Query) (of : IsGraphOf allows items graph) where
  abbrev n : ℕ
  n = module_count items

  abbrev runs : Runs
  runs = runs_of_stack items

  rise : AsksRise 0 n runs
  rise = AsksRise-stack items of.numbered

  classes-stack : (a : Assignment) → classes_by runs a ≡ (path_through items a).steps
  unfolding path_through
  classes-stack a = ap (map (class_by a)) (asked_by-runs_of_stack items a)

  decision-path : (a : Assignment) → (path_through items a).decision ≡ decided items a
  unfolding path_through
  decision-path a = refl

  -- a run of allowed answers that do what the query asks for is along a walk, and ends well
  pub found-good : (run : RunValue) → IsFound allows items query run → GoodAlong allows query (walks graph) (first_state query) run
  found-good run f =
      let path = path_through items f.answers in
      let chosen = own-chosen n allows 0 runs f.answers rise f.allowed in
      subst (GoodAlong allows query (walks graph) (first_state query)) (sym f.is_run) (record {
        walk = path;
        member = (of.listing.members path).1 (f.answers, f.allowed, refl);
        chosen = subst (λ (ws : List StepValue). AreChosen allows ws (run_of items f.answers).steps) (classes-stack f.answers)
            (subst (λ (r : RunValue). AreChosen allows (classes_by runs f.answers) r.steps) (run-stack items f.answers) chosen);
        decides = sym (decision-path f.answers);
        good = does-ends items f.answers query f.does;
      })

  -- and such a run is one of allowed answers that do
  pub good-found : (run : RunValue) → GoodAlong allows query (walks graph) (first_state query) run → IsFound allows items query run
  good-found run g =
      let from = (of.listing.members g.walk).0 g.member in
      let chosen = subst (λ (p : PathValue). AreChosen allows p.steps run.steps) from.2 g.chosen in
      let got = choose n allows 0 runs from.0 run.steps rise from.1
      (subst (λ (ws : List StepValue). AreChosen allows ws run.steps) (sym (classes-stack from.0)) chosen) in
      let decides : decision_of (final_state runs from.0) ≡ run.decision =
      decision_of-runs_of_stack items from.0 ∙ sym (decision-path from.0) ∙ sym (ap (λ (p : PathValue). p.decision) from.2) ∙ sym g.decides in
      let is : run ≡ run_of items got.answers =
      ap (λ (d : ℕ). whole run.steps d) (sym decides) ∙ sym got.is_run ∙ run-stack items got.answers in
      record {
        answers = got.answers;
        allowed = got.allowed;
        does = ends-does items got.answers query
            (subst (λ (r : RunValue). EndsWell query (first_state query) r.steps r.decision) is g.good);
        is_run = is;
      }
