-- How many answers two stacks take.
use Rattle.std.proofs.Common.{◌≡◌, ◌<◌, ◌≤◌, ◌∙◌, ℕ, zero, suc, Bool, true, false, cond, eqb, List, Option, Some, None, ap, arith, refl, sym, subst}
use Rattle.pam_dispatch.specs.declared.flat_item.FlatItem.{FlatItem}
use Rattle.pam_dispatch.specs.Flat.{modules_of}
use Rattle.pam_dispatch.specs.Runs.{Ask, Assignment, AsksRise, Runs, ends, asks, asked_module, outcome_of}
use Rattle.pam_dispatch.specs.declared.state.State.{State}
use Rattle.pam_dispatch.specs.declared.step.Outcome.{Outcome}
use Rattle.pam_dispatch.proofs.Asking.{AsksRise-step}
use Rattle.pam_compare.specs.declared.turn.Turn.{Turn}
use Rattle.pam_compare.specs.declared.turn.Turn.TheVariants.{Old, New, Both}
use Rattle.pam_compare.specs.Names.{name_of}
use Rattle.pam_compare.specs.Questions.{EndsAfter}
use Rattle.pam_compare.specs.Walks.{Order, new_after, old_after, turn_code, turn_of}
use Rattle.pam_compare.specs.inner.Turn.{IsTurn}
use Rattle.pam_compare.proofs.Reaching.{new-rises, old-rises}
use Rattle.pam_compare.proofs.Turns.{can-turn}

-- EACH WALK ENDS

module _ (names : List ℕ) (old_first : Order) (a b : Assignment) where
  abbrev Ends : Runs → Runs → Type 0
  Ends left right = (n : ℕ) × EndsAfter names old_first a b n left right

  -- after one more answer
  one-more : (left right : Runs) (turn : Turn) → turn_of names old_first (asked_module left) (asked_module right) ≡ Some turn →
      Ends (old_after turn left (turn_code turn a b)) (new_after turn right (turn_code turn a b)) → Ends left right
  unfolding EndsAfter
  one-more left right turn is more = (suc more.0, (turn, is, more.1))

  module _ (p : Ask) (next : Outcome → Runs) (q : Ask) (more : Outcome → Runs) where
    abbrev i : ℕ
    i = p.module_number

    abbrev j : ℕ
    j = q.module_number

    whose : (same first : Bool) → eqb (name_of names j) i ≡ same → old_first i j ≡ first →
        turn_of names old_first (Some i) (Some j) ≡ cond same (Some (Both i j)) (cond first (Some (Old i)) (Some (New j)))
    whose same first is order =
        ap (λ (t : Bool). cond t (Some (Both i j)) (cond (old_first i j) (Some (Old i)) (Some (New j)))) is
        ∙ ap (λ (t : Bool). cond same (Some (Both i j)) (cond t (Some (Old i)) (Some (New j)))) order

    -- both stacks ask a module next
    any-turn : Ends (next (outcome_of p (a i))) (more (outcome_of q (a i))) → Ends (next (outcome_of p (a i))) (asks q more) →
        Ends (asks p next) (more (outcome_of q (b j))) → Ends (asks p next) (asks q more)
    any-turn both old new = by (eqb (name_of names j) i) (old_first i j) refl refl
      where
        by : (same first : Bool) → eqb (name_of names j) i ≡ same → old_first i j ≡ first → Ends (asks p next) (asks q more)
        by true first is order = one-more (asks p next) (asks q more) (Both i j) (whose true first is order) both
        by false true is order = one-more (asks p next) (asks q more) (Old i) (whose false true is order) old
        by false false is order = one-more (asks p next) (asks q more) (New j) (whose false false is order) new

  old-ended : (s : State) (right : Runs) → Ends (ends s) right
  unfolding EndsAfter
  old-ended s (ends t) = (0, refl)
  old-ended s (asks q more) =
      one-more (ends s) (asks q more) (New q.module_number) refl (old-ended s (more (outcome_of q (b q.module_number))))

  old-asks : (p : Ask) (next : Outcome → Runs) → ((o : Outcome) (right : Runs) → Ends (next o) right) → (right : Runs) → Ends (asks p next) right
  old-asks p next rest (ends t) =
      one-more (asks p next) (ends t) (Old p.module_number) refl (rest (outcome_of p (a p.module_number)) (ends t))
  old-asks p next rest (asks q more) =
      any-turn p next q more (rest (outcome_of p (a p.module_number)) (more (outcome_of q (a p.module_number))))
      (rest (outcome_of p (a p.module_number)) (asks q more)) (old-asks p next rest (more (outcome_of q (b q.module_number))))

  pub each-ends : (left right : Runs) → Ends left right
  each-ends (ends s) right = old-ended s right
  each-ends (asks p next) right = old-asks p next (λ o r. each-ends (next o) r) right

-- THE SAME ANSWERS END THE SAME WALK

module _ (old new : List FlatItem) (names : List ℕ) (old_first : Order) (a b c d : Assignment)
    (old_same : (i : ℕ) → 0 < i → i ≤ modules_of old → a i ≡ c i) (new_same : (j : ℕ) → 0 < j → j ≤ modules_of new → b j ≡ d j) where
  code-same : (left right : Runs) (old_low new_low : ℕ) → AsksRise old_low (modules_of old) left → AsksRise new_low (modules_of new) right → (turn : Turn) →
      IsTurn names (asked_module left) (asked_module right) turn → turn_code turn a b ≡ turn_code turn c d
  code-same left right old_low new_low rise_old rise_new (Old i) is =
      let step = AsksRise-step old_low (modules_of old) left i rise_old is in let first = step.0 in old_same i (omega (arith, first)) step.1
  code-same left right old_low new_low rise_old rise_new (New j) is =
      let step = AsksRise-step new_low (modules_of new) right j rise_new is in let first = step.0 in new_same j (omega (arith, first)) step.1
  code-same left right old_low new_low rise_old rise_new (Both i j) is =
      let step = AsksRise-step old_low (modules_of old) left i rise_old is.0 in let first = step.0 in old_same i (omega (arith, first)) step.1

  pub ends-same : (n : ℕ) (left right : Runs) (old_low new_low : ℕ) → AsksRise old_low (modules_of old) left → AsksRise new_low (modules_of new) right →
      EndsAfter names old_first a b n left right → EndsAfter names old_first c d n left right
  unfolding EndsAfter
  ends-same zero left right old_low new_low rise_old rise_new e = e
  ends-same (suc n) left right old_low new_low rise_old rise_new e =
      let turn : Turn = e.0 in
      let is = can-turn names old_first (asked_module left) (asked_module right) turn e.1 in
      let code : ℕ = turn_code turn a b in
      let olds = old-rises old new names left right old_low new_low rise_old rise_new turn code is in
      let news = new-rises old new names left right old_low new_low rise_old rise_new turn code is in
      let rest = ends-same n _ _ olds.0 news.0 olds.1 news.1 e.2 in (
        turn,
        e.1,
        subst (λ (x : ℕ). EndsAfter names old_first c d n (old_after turn left x) (new_after turn right x))
            (code-same left right old_low new_low rise_old rise_new turn is) rest,
      )
