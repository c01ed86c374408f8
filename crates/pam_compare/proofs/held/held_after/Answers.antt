use Rattle.std.proofs.Common.{◌≡◌, ◌⊎◌, ◌<◌, ◌∙◌, ◌∷◌, ◌++◌, ◌&&◌, ℕ, Bool, List, Option, [], true, false}
use Rattle.std.proofs.Common.{Some, ap, arith, cond, drop, filter, inl, inr, length, refl, subst, sym}
use Rattle.std.specs.Prelude.{slice_get, take}
use Rattle.std.proofs.lemmas.Bool.{cases_lt}
use Rattle.std.proofs.lemmas.Option.{slice_get-get_or}
use Rattle.pam_codes.specs.Set.{is_in}
use Rattle.pam_compare.specs.declared.held.HeldAnswer.{HeldAnswer}
use Rattle.pam_compare.specs.declared.naming.Naming.{Naming}
use Rattle.pam_compare.specs.Held.{Holds}
use Rattle.pam_compare.specs.Walks.{held_after, is_ahead, tells}
use Rattle.pam_compare.specs.inner.Held.{is_wanted}
use Rattle.pam_compare.specs.inner.Trails.{IsPast, IsSettled}
use Rattle.pam_compare.proofs.Ahead.{append-append, append-none, filter-end, filter-take}
use Rattle.pam_compare.proofs.Growing.{append-left, kept, there-after, there-dropped}
use Rattle.pam_compare.proofs.Holding.{holds-append, holds-at, holds-drop, holds-equal, some-held}
use Rattle.pam_compare.proofs.held.held_after.Goals as goal

-- the answer, if it is held
abbrev first_held : Naming → ℕ → HeldAnswer → Option ℕ → Option ℕ → List HeldAnswer
first_held naming modules answer old new =
    cond (tells naming.possible.items answer && is_ahead naming.names.items naming.old_modules modules answer.name old new) (answer ∷ []) []

pub loop-index-init : goal.loop-index-init
unfolding Holds
loop-index-init c =
    let first = c.in_ok-push_if.ensures in
    let names = c.args.naming.now.names.items in
    let possible = c.args.naming.now.possible.items in
    let count = c.args.naming.now.old_modules in
    record {
      holds = λ a h new. first.holds a (holds-equal a [] _ (sym c.in_ok-latest.ensures) tt) new;
      adds = λ modules names_count last. elim c.is_needed-is_needed.result as (λ (b : Bool).
          c.is_needed-is_needed.result ≡ b →
          ((m : ℕ) × (slice_get c.push_if.new.held.items m ≡ Some c.args.answer))
          ⊎ IsSettled possible names count modules c.args.answer.name c.args.answer.codes c.args.step.old c.args.step.new) [
            | true ↦ λ yes. inl (first.pushed yes)
            | false ↦ λ out. inr (c.is_needed-is_needed.ensures.settled modules names_count last out)
          ] refl;
      keeps = λ modules names_count last i h below. absurd (omega (arith, below));
      exact = λ modules are positive.
          first.exact ∙ ap (λ (l : List HeldAnswer). l ++ cond c.is_needed-is_needed.result (c.args.answer ∷ []) []) c.in_ok-latest.ensures
          ∙ ap (λ (b : Bool). cond b (c.args.answer ∷ []) []) (c.is_needed-is_needed.ensures.exact modules are positive) ∙ sym (append-none _);
    }

pub loop-index-preserved : goal.loop-index-preserved
loop-index-preserved c =
    let inv = c.loop-index.invariant in
    let held = c.args.held.now in
    let k = c.loop-index.index in
    let earlier = c.index-held-index.result in
    let step = c.in_ok-push_if-2.ensures in
    let names = c.args.naming.now.names.items in
    let count = c.args.naming.now.old_modules in
    let within : k < length held = omega arith in
    let there : slice_get held k ≡ Some earlier = slice_get-get_or held k earlier within ∙ ap (λ (x : HeldAnswer). Some x) (sym c.index-held-index.is) in
    record {
      holds = λ a h new. step.holds a (inv.holds a h new)
          (subst (λ (y : HeldAnswer). is_in (a y.name) y.codes ≡ true) (sym c.index-held-index.is) (holds-at a held k earlier within h));
      adds = λ modules names_count last. elim (inv.adds modules names_count last) [
        | inl m ↦ inl (m.0, kept _ _ m.0 c.args.answer step.keeps m.1)
        | inr past ↦ inr past
      ];
      keeps = λ modules names_count last i h below at other.
          let Kept : HeldAnswer → Type 0 = λ x.
          ((m : ℕ) × (slice_get c.push_if-in-loop-index.new.held.items m ≡ Some x)) ⊎ IsPast names count modules x.name c.args.step.old c.args.step.new in
          elim (cases_lt i k) [
            | inl before ↦ elim (inv.keeps modules names_count last i h before at other) [
              | inl m ↦ inl (m.0, kept _ _ m.0 h step.keeps m.1)
              | inr past ↦ inr past
            ]
            | inr most ↦
                let same : k ≡ i = omega arith in
                let e : earlier ≡ h = some-held earlier h (sym there ∙ ap (λ (n : ℕ). slice_get held n) same ∙ at) in
                subst Kept e
                (elim c.is_wanted.result as (λ (b : Bool). c.is_wanted.result ≡ b → Kept earlier) [
                  | true ↦ λ yes. inl (step.pushed yes)
                  | false ↦ λ out. elim (c.is_wanted.ensures.past modules names_count last out) [
                    | inl answered ↦ absurd (other (ap (λ (x : HeldAnswer). x.name) (sym e) ∙ answered))
                    | inr past ↦ inr past
                  ]
                ] refl)
          ];
      exact = λ modules are positive.
          let test : HeldAnswer → Bool =
          λ x. is_wanted names count modules c.args.answer.name c.args.step.old c.args.step.new x.name in
          let first : List HeldAnswer = first_held c.args.naming.now modules c.args.answer c.args.step.old c.args.step.new in
          step.exact ∙ ap (λ (l : List HeldAnswer). l ++ cond c.is_wanted.result (earlier ∷ []) []) (inv.exact modules are positive)
          ∙ ap (λ (b : Bool). (first ++ filter test (take k held)) ++ cond b (earlier ∷ []) []) (c.is_wanted.ensures.exact modules are positive)
          ∙ append-append first (filter test (take k held)) (cond (test earlier) (earlier ∷ []) [])
          ∙ ap (λ (l : List HeldAnswer). first ++ l) (sym (filter-take test held k earlier there));
    }

pub returns-clause-holds : goal.returns-clause-holds
returns-clause-holds c a h new =
    holds-append a c.loop-index.latest.items _ (c.loop-index.invariant.holds a h new) (holds-drop a c.args.held.now c.kept_from-start.result h)

pub returns-clause-held : goal.returns-clause-held
returns-clause-held c modules count last =
    let inv = c.loop-index.invariant in
    let held = c.args.held.now in
    let start = c.kept_from-start.result in
    let latest = c.loop-index.latest.items in
    let kept_end = drop start held in
    record {
      keeps = λ i h at other. elim (cases_lt i start) [
        | inl early ↦ elim (inv.keeps modules count last i h (omega (arith, early)) at other) [
          | inl m ↦ inl (m.0, append-left latest kept_end m.0 h m.1)
          | inr past ↦ inr past
        ]
        | inr late ↦
            let there = there-dropped held start i h (omega arith) at in
            inl (there-after latest kept_end there.0 h there.1)
      ];
      adds = elim (inv.adds modules count last) [
        | inl m ↦ inl (m.0, append-left latest kept_end m.0 c.args.answer m.1)
        | inr settled ↦ inr settled
      ];
    }

pub returns-clause-exact : goal.returns-clause-exact
unfolding held_after
returns-clause-exact c modules old_before new_before are positive from =
    let naming = c.args.naming.now in
    let held = c.args.held.now in
    let start = c.kept_from-start.result in
    let test : HeldAnswer → Bool =
    λ x. is_wanted naming.names.items naming.old_modules modules c.args.answer.name c.args.step.old c.args.step.new x.name in
    let first : List HeldAnswer = first_held naming modules c.args.answer c.args.step.old c.args.step.new in
    let all : c.loop-index.index ≡ start = omega arith in
    ap (λ (l : List HeldAnswer). l ++ drop start held) (c.loop-index.invariant.exact modules are positive)
    ∙ append-append first (filter test (take c.loop-index.index held)) (drop start held)
    ∙ ap (λ (n : ℕ). first ++ (filter test (take n held) ++ drop start held)) all
    ∙ ap (λ (l : List HeldAnswer). first ++ l) (filter-end test held start (c.kept_from-start.ensures.wanted modules old_before new_before are positive from))
