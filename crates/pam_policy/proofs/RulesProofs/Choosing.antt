-- The first of two runs is the first of those of which either is the first.
use Rattle.std.proofs.Common.{◌≡◌, ◌⊎◌, ◌<◌, ◌≤◌, ◌||◌, ◌&&◌, Bool, true, false, inl, inr, sym, ◌∙◌, ap, subst, cond, arith, length, eqb, Option, None, Some}
use Rattle.std.proofs.lemmas.Bool.{cases_eq, cases_lt, eq-eqb, le-ltb, lt-ltb, ne_eqb}
use Rattle.pam_conf.specs.Stack.{Items}
use Rattle.pam_dispatch.specs.Runs.{Assignment}
use Rattle.pam_policy.specs.declared.search.run.Run.{Run}
use Rattle.pam_policy.specs.rules.inner.Choosing.{SaysFirst, comes_before, first_of, is_before}
use Rattle.pam_policy.specs.search.inner.Distances.{IsFirst}
use Rattle.pam_policy.specs.search.Runs.{RunValue, run_of, run_value}
use Rattle.pam_policy.proofs.RulesProofs.Order.{IsAtMost, Tells, most-trans, tell-stack}

-- what holds of the same runs has the same first one
pub first-same : (One Other : RunValue → Type 0) → ((run : RunValue) → One run → Other run) → ((run : RunValue) → Other run → One run) →
    (found : Option Run) → SaysFirst One found → SaysFirst Other found
first-same One Other to from None h = λ run o. h run (from run o)
first-same One Other to from (Some found) h = record {
  such = to (run_value found) h.such;
  fewest = λ other o. h.fewest other (from other o);
  first = λ other o same. h.first other (from other o) same;
}

-- a run of a stack
unfoldable pub IsOf : Items → RunValue → Type 0
IsOf items run = (answers : Assignment) × (run ≡ run_of items answers)

-- WHICH RUN COMES FIRST
before-less : (run other : Run) → length run.steps.items < length other.steps.items → is_before run other ≡ true
before-less run other l =
    ap (λ (t : Bool). t || (eqb (length run.steps.items) (length other.steps.items) && comes_before run.steps.items other.steps.items))
    (lt-ltb (length run.steps.items) (length other.steps.items) l)

before-rest : (run other : Run) → length other.steps.items ≤ length run.steps.items →
    is_before run other ≡ (eqb (length run.steps.items) (length other.steps.items) && comes_before run.steps.items other.steps.items)
before-rest run other l =
    ap (λ (t : Bool). t || (eqb (length run.steps.items) (length other.steps.items) && comes_before run.steps.items other.steps.items))
    (le-ltb (length run.steps.items) (length other.steps.items) l)

before-more : (run other : Run) → length other.steps.items < length run.steps.items → is_before run other ≡ false
before-more run other l =
    before-rest run other (omega (arith, l))
    ∙ ap (λ (t : Bool). t && comes_before run.steps.items other.steps.items)
    (ne_eqb (length run.steps.items) (length other.steps.items) (λ e. omega (arith, e, l)))

before-equal : (run other : Run) → length run.steps.items ≡ length other.steps.items → is_before run other ≡ comes_before run.steps.items other.steps.items
before-equal run other e =
    before-rest run other (omega (arith, e))
    ∙ ap (λ (t : Bool). t && comes_before run.steps.items other.steps.items) (eq-eqb (length run.steps.items) (length other.steps.items) e)

-- a run is chosen before another: it asks fewer modules, or as many and is shown first
record IsNoLater (run other : RunValue) : Type 0 where
  pub few : length run.steps ≤ length other.steps
  pub most : length run.steps ≡ length other.steps → IsAtMost run other

chosen-less : (run other : RunValue) → length run.steps < length other.steps → IsNoLater run other
chosen-less run other l = record { few = omega (arith, l); most = λ e. absurd (omega (arith, l, e)) }

-- the test of two runs of a stack chooses
unfoldable Chooses : Bool → RunValue → RunValue → Type 0
Chooses test run other = ((test ≡ true) × IsNoLater run other) ⊎ ((test ≡ false) × IsNoLater other run)

told : (items : Items) (run other : Run) → IsOf items (run_value run) → IsOf items (run_value other) →
    Tells (comes_before run.steps.items other.steps.items) (run_value run) (run_value other)
unfolding IsOf
told items run other a b =
    subst (λ (r : RunValue). Tells (comes_before r.steps other.steps.items) r (run_value other)) (sym a.1)
    (subst (λ (r : RunValue). Tells (comes_before (run_of items a.0).steps r.steps) (run_of items a.0) r) (sym b.1) (tell-stack items a.0 b.0))

choose : (items : Items) (run other : Run) → IsOf items (run_value run) → IsOf items (run_value other) →
    Chooses (is_before run other) (run_value run) (run_value other)
unfolding Chooses Tells
choose items run other a b =
    elim (cases_lt (length run.steps.items) (length other.steps.items)) [
      | inl l ↦ inl (before-less run other l, chosen-less (run_value run) (run_value other) l)
      | inr low ↦ elim (cases_eq (length run.steps.items) (length other.steps.items)) [
        | inr ne ↦
            let more : length other.steps.items < length run.steps.items = omega (arith, low, ne) in
            inr (before-more run other more, chosen-less (run_value other) (run_value run) more)
        | inl e ↦ elim (told items run other a b) [
          | inl h ↦ inl (before-equal run other e ∙ h.0, record { few = omega (arith, e); most = λ same. inr h.1 })
          | inr h ↦ inr (before-equal run other e ∙ h.0, record { few = omega (arith, e); most = λ same. h.1 })
        ]
      ]
    ]

module _ (items : Items) (One Other Both : RunValue → Type 0) (of-one : (run : RunValue) → One run → IsOf items run)
    (of-other : (run : RunValue) → Other run → IsOf items run) (cases : (run : RunValue) → Both run → One run ⊎ Other run)
    (left : (run : RunValue) → One run → Both run) (right : (run : RunValue) → Other run → Both run) where
  -- the one that is chosen is the first of both
  take-one : (one other : RunValue) → IsNoLater one other → IsFirst One one → IsFirst Other other → IsFirst Both one
  take-one one other no_later h k = record {
    such = left one h.such;
    fewest = λ run b. elim (cases run b) [
      | inl x ↦ h.fewest run x
      | inr y ↦ omega (arith, no_later.few, k.fewest run y)
    ];
    first = λ run b same. elim (cases run b) [
      | inl x ↦ h.first run x same
      | inr y ↦
          let few = k.fewest run y in
          most-trans one other run (no_later.most (omega (arith, no_later.few, few, same)))
          (k.first run y (omega (arith, no_later.few, few, same)))
    ];
  }

  take-other : (one other : RunValue) → IsNoLater other one → IsFirst One one → IsFirst Other other → IsFirst Both other
  take-other one other no_later h k = record {
    such = right other k.such;
    fewest = λ run b. elim (cases run b) [
      | inl x ↦ omega (arith, no_later.few, h.fewest run x)
      | inr y ↦ k.fewest run y
    ];
    first = λ run b same. elim (cases run b) [
      | inl x ↦
          let few = h.fewest run x in
          most-trans other one run (no_later.most (omega (arith, no_later.few, few, same)))
          (h.first run x (omega (arith, no_later.few, few, same)))
      | inr y ↦ k.first run y same
    ];
  }

  pub first-both : (one other : Option Run) → SaysFirst One one → SaysFirst Other other → SaysFirst Both (first_of one other)
  unfolding Chooses
  first-both None None h k = λ run b. elim (cases run b) [ inl x ↦ h run x | inr y ↦ k run y ]
  first-both None (Some other) h k = record {
    such = right (run_value other) k.such;
    fewest = λ run b. elim (cases run b) [ inl x ↦ absurd (h run x) | inr y ↦ k.fewest run y ];
    first = λ run b same. elim (cases run b) [ inl x ↦ absurd (h run x) | inr y ↦ k.first run y same ];
  }
  first-both (Some one) None h k = record {
    such = left (run_value one) h.such;
    fewest = λ run b. elim (cases run b) [ inl x ↦ h.fewest run x | inr y ↦ absurd (k run y) ];
    first = λ run b same. elim (cases run b) [ inl x ↦ h.first run x same | inr y ↦ absurd (k run y) ];
  }
  first-both (Some one) (Some other) h k =
      elim (choose items other one (of-other (run_value other) k.such) (of-one (run_value one) h.such)) [
        | inl c ↦ subst (λ (t : Bool). SaysFirst Both (cond t (Some other) (Some one))) (sym c.0)
            (take-other (run_value one) (run_value other) c.1 h k)
        | inr c ↦ subst (λ (t : Bool). SaysFirst Both (cond t (Some other) (Some one))) (sym c.0)
            (take-one (run_value one) (run_value other) c.1 h k)
      ]
