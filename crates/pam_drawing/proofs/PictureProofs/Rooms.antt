-- Room in the lanes for all nodes.
use Rattle.std.proofs.Common.{◌≡◌, ◌∙◌, ℕ, ◌+◌, ◌^◌, ◌<◌, ◌≤◌, zero, suc, Bool, true, ◌&&◌, cond, List, [], ◌∷◌, ◌++◌}
use Rattle.std.proofs.Common.{ap, arith, get_or, inl, inr, length, map, refl, subst, sym, take}
use Rattle.std.proofs.lemmas.Bool.{cases_lt, cond_both, eq-eqb}
use Rattle.std.proofs.lemmas.Grind.{common_steps}
use Rattle.std.proofs.lemmas.List.{map-append, take_more}
use Rattle.std.proofs.lemmas.List.Sums.{sum_by_push}
use Rattle.std.specs.List.{count_by}
use Rattle.pam_codes.specs.Set.{is_in}
use Rattle.pam_dispatch.specs.Hashing.{same_state}
use Rattle.pam_dispatch.specs.State.{state_with}
use Rattle.pam_dispatch.specs.declared.state.Impression.TheVariants.{Negative, Positive, Undef}
use Rattle.pam_dispatch.specs.declared.state.State.{State}
use Rattle.pam_graph.specs.declared.node.Node.{Node}
use Rattle.pam_drawing.specs.picture.Lanes.{end_state, has_state}
use Rattle.pam_drawing.specs.picture.inner.Laned.{AreFew, HasRoom, IsLaneOfEnd, lanes_for, number_at}

pub self-same : (s : State) → same_state s s ≡ true
self-same s =
    let status = eq-eqb s.status s.status refl in
    grind (arith, status)

module _ (before all : List State) (new : State) (pushed : all ≡ before ++ new ∷ []) where
  counted : (s : State) → lanes_for all s ≡ lanes_for before s + cond (same_state s new) 1 0
  counted s = ap (count_by (same_state s)) pushed ∙ sum_by_push (λ (t : State). cond (same_state s t) 1 0) before new

  pub kept : (s : State) → lanes_for before s ≤ lanes_for all s
  kept s = omega (arith, counted s)

  pub one-more : lanes_for all new ≡ lanes_for before new + 1
  one-more = counted new ∙ ap (λ (t : Bool). lanes_for before new + cond t 1 0) (self-same new)

pub few : (numbers : List ℕ) (index : ℕ) → AreFew numbers → number_at numbers index + 1 < 2 ^ 64
few [] index h = omega arith
few (n ∷ numbers) zero h = h 0 0 (omega arith)
few (n ∷ numbers) (suc index) h = few numbers index (λ k d l. h (suc k) d (omega (arith, l)))

-- one more element, with the value of the next one of a list
pub taken-more : {A B C : Type 0} (g : A → C) (f : B → C) (before all : List A) (new : A) (xs : List B) (i : ℕ) (x : B) → map g before ≡ map f (take i xs)
    → g new ≡ f x → x ≡ get_or xs i x → i < length xs → all ≡ before ++ new ∷ [] → map g all ≡ map f (take (i + 1) xs)
taken-more {A} {B} {C} g f before all new xs i x so-far is at h pushed =
    ap (map g) pushed ∙ map-append g before (new ∷ []) ∙ ap (λ (l : List C). l ++ g new ∷ []) so-far
    ∙ ap (λ (c : C). map f (take i xs) ++ c ∷ []) (is ∙ ap f at)
    ∙ sym (ap (map f) (take_more xs i x h) ∙ map-append f (take i xs) (get_or xs i x ∷ []))

-- more lanes are room too
pub roomier : {nodes : List Node} {twins ends : List ℕ} {before after : List State} (state : State) → HasRoom nodes twins ends before state
    → lanes_for before state ≤ lanes_for after state → HasRoom nodes twins ends after state
roomier state room more = record {
  each_node = λ index node at is. omega (arith, room.each_node index node at is, more);
  its_end = λ drawn is. omega (arith, room.its_end drawn is, more);
}

-- the state of an end has its decision as status
pub status-of-end : (nodes : List Node) (decision : ℕ) → (end_state nodes decision).status ≡ decision
status-of-end nodes decision =
    cond_both (has_state nodes (state_with Positive decision)) _ _ (λ (s : State). s.status ≡ decision) (λ _. refl)
    (λ _. cond_both (has_state nodes (state_with Negative decision)) _ _ (λ (s : State). s.status ≡ decision) (λ _. refl)
    (λ _. cond_both (has_state nodes (state_with Undef decision)) _ _ (λ (s : State). s.status ≡ decision) (λ _. refl) (λ _. refl)))

-- a decision that is drawn is in the lane for its state
pub end-there : (nodes : List Node) (ends : List ℕ) (state : State) → is_in state.status ends ≡ true → end_state nodes state.status ≡ state
    → (is_in state.status ends && same_state (end_state nodes state.status) state) ≡ true
end-there nodes ends state drawn is = rw drawn (ap (λ (s : State). same_state s state) is ∙ self-same state)

-- one more end
pub one-more-end : (nodes : List Node) (states : List State) (before all : List ℕ) (lane n : ℕ) → length before ≡ n
    → ((d : ℕ) → d < n → IsLaneOfEnd nodes states d (number_at before d)) → IsLaneOfEnd nodes states n lane → all ≡ before ++ lane ∷ []
    → (d : ℕ) → d < n + 1 → IsLaneOfEnd nodes states d (number_at all d)
one-more-end nodes states before all lane n long so-far new pushed d below =
    elim (cases_lt d n) [
      | inl low ↦
          let kept : get_or (before ++ lane ∷ []) d 0 ≡ get_or before d 0 = grind (arith, common_steps) in
          subst (IsLaneOfEnd nodes states d) (sym (ap (λ (l : List ℕ). get_or l d 0) pushed ∙ kept)) (so-far d low)
      | inr late ↦
          let this : d ≡ n = omega arith in
          let last : get_or (before ++ lane ∷ []) n 0 ≡ lane = grind (arith, common_steps) in
          subst (λ (k : ℕ). IsLaneOfEnd nodes states k (number_at all k)) (sym this)
          (subst (IsLaneOfEnd nodes states n) (sym (ap (λ (l : List ℕ). get_or l n 0) pushed ∙ last)) new)
    ]
