-- The outcomes of codes, by their actions.
use Rattle.std.proofs.Common.{◌≡◌, ◌≢◌, ◌⊎◌, ℕ, ◌==◌, ◌&&◌, Bool, true, false, refl, sym, ◌∙◌, ap, inl, inr, Some}
use Rattle.std.specs.Prelude.{slice_get}
use Rattle.std.proofs.lemmas.Bool.{cond-false, cond-true, ne_eqb}
use Rattle.std.proofs.lemmas.Option.{get_or_from_slice_get}
use Rattle.pam_codes.specs.declared.action.Action.{Action}
use Rattle.pam_codes.specs.declared.action.Action.TheVariants.{Ignore}
use Rattle.pam_dispatch.specs.declared.state.Impression.TheVariants.{Negative}
use Rattle.pam_dispatch.specs.declared.step.Outcome.{Outcome}
use Rattle.pam_dispatch.specs.Alike.{fails, looks_at_code, told_status}
use Rattle.pam_dispatch.specs.Runs.{Ask, outcome_of}
use Rattle.pam_dispatch.specs.State.{action_of}
use Rattle.pam_dispatch.specs.Settled.{keeps_failure, unchanged}
use Rattle.pam_dispatch.proofs.Retelling.{outcome-retold, outcome-shared, outcomes-differ}
use Rattle.pam_dispatch.proofs.SettledRuns.{failed-outcome}

action_at : (ask : Ask) (c : ℕ) (a : Action) → slice_get ask.control c ≡ Some a → action_of ask.control c ≡ a
action_at ask c a h = get_or_from_slice_get ask.control c a Ignore h

looks_of : (ask : Ask) (c : ℕ) (a : Action) (b : Bool) → slice_get ask.control c ≡ Some a → looks_at_code a ask.state ≡ b →
    looks_at_code (action_of ask.control c) ask.state ≡ b
looks_of ask c a b k h = ap (λ (x : Action). looks_at_code x ask.state) (action_at ask c a k) ∙ h

-- codes of one action that does not look at the code have one outcome
pub one_outcome : (ask : Ask) (a : Action) (c d : ℕ) → slice_get ask.control c ≡ Some a → slice_get ask.control d ≡ Some a →
    looks_at_code a ask.state ≡ false → outcome_of ask c ≡ outcome_of ask d
one_outcome ask a c d k l h = outcome-shared ask c d (action_at ask c a k ∙ sym (action_at ask d a l)) (looks_of ask c a false k h)

-- a code whose action looks at it is the status, unless it is ignore
told_own : (a : Action) (d : ℕ) → d ≢ 25 → told_status a d ≡ d
told_own a d ne = cond-false (fails a && (d == 25)) 6 d (and-none (fails a) (d == 25) (ne_eqb d 25 ne))
  where
    and-none : (x y : Bool) → y ≡ false → (x && y) ≡ false
    and-none true y e = e
    and-none false y e = refl

pub own_status : (ask : Ask) (a : Action) (d : ℕ) → slice_get ask.control d ≡ Some a → looks_at_code a ask.state ≡ true → d ≢ 25 →
    (outcome_of ask d).state.status ≡ d
own_status ask a d k h ne =
    let own : Action = action_of ask.control d in
    let told : Outcome = record {
      state = record { impression = (outcome_of ask d).state.impression; status = told_status own d };
      left =
          (outcome_of ask d).left;
    } in
    ap (λ (o : Outcome). o.state.status) (outcome-retold ask d d refl
    ∙ cond-true (looks_at_code own ask.state) told (outcome_of ask d) (looks_of ask d a true k h))
    ∙ told_own own d ne

-- codes whose actions look at them are alike only if they are one code, or perm_denied and ignore
pub alike_codes : (ask : Ask) (a b : Action) (c d : ℕ) → slice_get ask.control c ≡ Some a → slice_get ask.control d ≡ Some b →
    looks_at_code a ask.state ≡ true → looks_at_code b ask.state ≡ true → outcome_of ask c ≡ outcome_of ask d →
    (c ≡ d) ⊎ (((c ≡ 6) × (d ≡ 25)) ⊎ ((c ≡ 25) × (d ≡ 6)))
alike_codes ask a b c d k l h i e =
    elim (outcomes-differ ask c d (looks_of ask c a true k h) (looks_of ask d b true l i) e) [
      | inl same ↦ inl same
      | inr denied ↦ elim denied.0.1 [
        | inl c6 ↦ elim denied.1.1 [
          | inl d6 ↦ inl (c6 ∙ sym d6)
          | inr d25 ↦ inr (inl (c6, d25))
        ]
        | inr c25 ↦ elim denied.1.1 [
          | inl d6 ↦ inr (inr (c25, d6))
          | inr d25 ↦ inl (c25 ∙ sym d25)
        ]
      ]
    ]

-- if the stack has failed, a code whose action keeps that leaves the run as it is
pub failed_outcome : (ask : Ask) (a : Action) (c : ℕ) → slice_get ask.control c ≡ Some a → ask.state.impression ≡ Negative → keeps_failure a ≡ true →
    outcome_of ask c ≡ unchanged ask ask.state
failed_outcome ask a c h negative k = failed-outcome ask c negative (ap keeps_failure (action_at ask c a h) ∙ k)
