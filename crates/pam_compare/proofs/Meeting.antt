-- Where every situation is visited, the change that the stacks make is found.
use Rattle.std.proofs.Common.{◌≡◌, ◌⊎◌, ◌≤◌, ◌+◌, ◌∙◌, ℕ, zero, suc, List, [], ◌∷◌, Option, Some, None, length, ap, subst, sym, refl, inl, inr, arith}
use Rattle.std.specs.Prelude.{slice_get}
use Rattle.pam_dispatch.specs.declared.flat_item.FlatItem.{FlatItem}
use Rattle.pam_dispatch.specs.declared.state.State.{State}
use Rattle.pam_dispatch.specs.Decision.{decision_of}
use Rattle.pam_dispatch.specs.Flat.{rest_of, runs_of}
use Rattle.pam_dispatch.specs.Runs.{Assignment, Runs, after_answer, asked_module, final_state}
use Rattle.pam_dispatch.proofs.Asking.{final_state-follows}
use Rattle.pam_compare.specs.declared.change.Change.{Change}
use Rattle.pam_compare.specs.declared.nodes.Found.{Found}
use Rattle.pam_compare.specs.declared.nodes.Nodes.{Nodes}
use Rattle.pam_compare.specs.declared.nodes.Way.{Way}
use Rattle.pam_compare.specs.declared.situation.Situation.{Situation}
use Rattle.pam_compare.specs.declared.turn.Turn.{Turn}
use Rattle.pam_compare.specs.declared.turn.Turn.TheVariants.{Old, New, Both}
use Rattle.pam_compare.specs.Changes.{change_of}
use Rattle.pam_compare.specs.Comparison.{decision_in}
use Rattle.pam_compare.specs.Names.{by_name, name_of}
use Rattle.pam_compare.specs.inner.Naming.{IsPossible}
use Rattle.pam_compare.specs.inner.Nodes.{IsBegun, IsDecided, IsDone, IsFollowed, IsFoundWithin, IsMet, IsNear, IsNoted, IsSearched, IsVisited}
use Rattle.pam_compare.specs.inner.Trails.{IsTrail}
use Rattle.pam_compare.specs.inner.Ways.{AreRising}
use Rattle.pam_compare.specs.Questions.{EndsAfter}
use Rattle.pam_compare.specs.Walks.{Order, new_after, old_after, turn_code, turn_name}
use Rattle.pam_compare.specs.inner.Turn.{IsTurn}
use Rattle.pam_compare.proofs.Growing.{nothing, same-node, same-some}
use Rattle.pam_compare.proofs.Holding.{holds-equal}
use Rattle.pam_compare.proofs.Stepping.{steps-rise}
use Rattle.pam_compare.proofs.Turns.{can-turn, named-code}

-- both runs go on as they would
abbrev Advances : Runs → Runs → Runs → Runs → Assignment → Assignment → Type 0
Advances left right after_left after_right a b =
    (final_state after_left a ≡ final_state left a) × (final_state after_right b ≡ final_state right b)

module _ (a : Assignment) where
  one_ends : (runs : Runs) (i code : ℕ) → asked_module runs ≡ Some i → a i ≡ code → final_state (after_answer runs code) a ≡ final_state runs a
  one_ends runs i code asked is = final_state-follows a runs (after_answer runs code) i code asked is refl

module _ (names : List ℕ) (a : Assignment) where
  advance : (turn : Turn) (left right : Runs) → IsTurn names (asked_module left) (asked_module right) turn →
      Advances left right (old_after turn left (a (turn_name names turn))) (new_after turn right (a (turn_name names turn))) a (by_name names a)
  advance (Old i) left right is = (one_ends a left i (a i) is refl, refl)
  advance (New j) left right is = (refl, one_ends (by_name names a) right j (a (name_of names j)) is refl)
  advance (Both i j) left right is =
      (one_ends a left i (a i) is.0 refl, one_ends (by_name names a) right j (a i) is.1 (ap a is.2))

-- what was found up to a node was found within as many steps as lead there
noted-within : (found : Found) (ways : List Way) (index n : ℕ) (trail : List Way) (change : Option Change) → AreRising ways → IsTrail ways index trail →
    length trail ≤ n → IsNoted found index change → IsFoundWithin found ways n change
noted-within found ways index n trail None rising is few noted = tt
noted-within found ways index n trail (Some change) rising is few noted =
    (noted.0, noted.1, λ other there. let less = steps-rise ways rising other trail noted.0 index there is noted.2 in omega (arith, less, few))

module _ (old new : List FlatItem) (names : List ℕ) (old_first : Order) (possible : List (List ℕ)) (nodes : Nodes) (found : Found)
    (closed : (k : ℕ) (s : Situation) → slice_get nodes.situations.keys k ≡ Some s → IsVisited old new names old_first possible nodes found k s)
    (trails : (k : ℕ) (s : Situation) → slice_get nodes.situations.keys k ≡ Some s → (trail : List Way) × IsTrail nodes.ways.items k trail)
    (rising : AreRising nodes.ways.items) (a : Assignment) (can : IsPossible possible a) where
  -- the change from two runs on
  Decided : ℕ → Runs → Runs → Type 0
  Decided n left right = IsFoundWithin found nodes.ways.items n (change_of (decision_in left a) (decision_in right (by_name names a)))

  decided-by : (n : ℕ) (left right left' right' : Runs) → final_state left' a ≡ final_state left a →
      final_state right' (by_name names a) ≡ final_state right (by_name names a) → Decided n left' right' → Decided n left right
  unfolding Decided
  decided-by n left right left' right' e f d =
      subst (λ (x : ℕ). IsFoundWithin found nodes.ways.items n (change_of x (decision_in right (by_name names a)))) (ap (λ (s : State). decision_of s) e)
      (subst (λ (x : ℕ). IsFoundWithin found nodes.ways.items n (change_of (decision_in left' a) x)) (ap (λ (s : State). decision_of s) f) d)

  -- a node that is near one is at most one step further
  near-trail : (index met n : ℕ) (trail : List Way) → IsTrail nodes.ways.items index trail → length trail ≤ n → IsNear nodes index met →
      (other : List Way) → IsTrail nodes.ways.items met other → length other ≤ suc n
  unfolding IsTrail
  near-trail index met n trail is few near [] there = omega arith
  near-trail index met n trail is few (inl first) (w ∷ other) there = absurd (omega (arith, first, there.0))
  near-trail index met n trail is few (inr from) (w ∷ other) there =
      let same : from.0.parent ≡ w.parent = ap (λ (x : Way). x.parent) (same-some from.0 w (sym from.1 ∙ there.1)) in
      let less = steps-rise nodes.ways.items rising other trail w.parent index there.3 is (omega (arith, same, from.2)) in
      omega (arith, less, few)

  abbrev Ends : ℕ → Runs → Runs → Type 0
  Ends n left right = EndsAfter names old_first a (by_name names a) n left right

  -- what is known of a node at which these are left of the runs
  abbrev Known : ℕ → Runs → Runs → Type 0
  Known index left right =
      IsDecided found index names a left right ⊎ ((f : IsFollowed old new names old_first nodes a left right) × IsNear nodes index f.2.index)

  known-at : (left right : Runs) (m : IsMet old new nodes a left right) → Known m.index left right
  unfolding IsDone
  known-at left right m =
      let v = closed m.index m.situation m.is_there in
      let same = same-node nodes m.situation v.node m.node v.is_at m.is_at in
      let l : rest_of old v.node.old ≡ left = ap (rest_of old) same.0 ∙ m.left_is in
      let r : rest_of new v.node.new ≡ right = ap (rest_of new) same.1 ∙ m.right_is in
      subst (λ (x : Runs). Known m.index x right) l
      (subst (Known m.index (rest_of old v.node.old)) r (v.done a can (holds-equal a _ _ (sym same.2) m.holds)))

  decided : (n steps : ℕ) (left right : Runs) (m : IsMet old new nodes a left right) (trail : List Way) → IsTrail nodes.ways.items m.index trail →
      length trail ≤ steps → Ends n left right → Decided (steps + n) left right
  unfolding Decided EndsAfter
  decided zero steps left right m trail is few end =
      elim (known-at left right m) [
        | inl d ↦ noted-within found nodes.ways.items m.index (steps + zero) trail _ rising is (omega (arith, few)) d
        | inr w ↦ absurd (nothing w.0.0 (sym end ∙ w.0.1))
      ]
  decided (suc n) steps left right m trail is few end =
      elim (known-at left right m) [
        | inl d ↦ noted-within found nodes.ways.items m.index (steps + suc n) trail _ rising is (omega (arith, few)) d
        | inr w ↦
            let f = w.0 in
            let turn : Turn = f.0 in
            let code : ℕ = a (turn_name names turn) in
            let same : end.0 ≡ turn = same-some end.0 turn (sym end.1 ∙ f.1) in
            let rest : Ends n (old_after turn left (turn_code turn a (by_name names a))) (new_after turn right (turn_code turn a (by_name names a))) =
            subst (λ (t : Turn). Ends n (old_after t left (turn_code t a (by_name names a))) (new_after t right (turn_code t a (by_name names a)))) same end.2 in
            let next : Ends n (old_after turn left code) (new_after turn right code) =
            subst (λ (x : ℕ). Ends n (old_after turn left x) (new_after turn right x)) (named-code names turn a) rest in
            let there = trails f.2.index f.2.situation f.2.is_there in
            let way = advance names a turn left right (can-turn names old_first (asked_module left) (asked_module right) turn f.1) in
            let longer : suc steps + n ≡ steps + suc n = omega arith in
            let met = decided n (suc steps) _ _ f.2 there.0 there.1 (near-trail m.index f.2.index steps trail is few w.1 there.0 there.1) next in
            subst (λ (x : ℕ). Decided x left right) longer (decided-by (suc steps + n) left right _ _ way.0 way.1 met)
      ]

pub all-searched : (old new : List FlatItem) (names : List ℕ) (old_first : Order) (possible : List (List ℕ)) (nodes : Nodes) (found : Found) →
    ((k : ℕ) (s : Situation) → slice_get nodes.situations.keys k ≡ Some s → IsVisited old new names old_first possible nodes found k s) →
    ((k : ℕ) (s : Situation) → slice_get nodes.situations.keys k ≡ Some s → (trail : List Way) × IsTrail nodes.ways.items k trail) →
    AreRising nodes.ways.items → IsBegun old new nodes → IsSearched old new names old_first possible nodes.ways.items found
unfolding Decided IsSearched IsPossible IsTrail
all-searched old new names old_first possible nodes found closed trails rising begun a n can end =
    let first = begun a (λ name. (can name).0) in
    let none : 0 + n ≡ n = omega arith in
    let change = change_of (decision_in (runs_of old) a) (decision_in (runs_of new) (by_name names a)) in
    subst (λ (x : ℕ). IsFoundWithin found nodes.ways.items x change) none
    (decided old new names old_first possible nodes found closed trails rising a can n 0 (runs_of old) (runs_of new) first.0 [] first.1 (omega arith) end)
