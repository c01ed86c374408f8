-- Lists in order: what is added last is after all others.
use Rattle.std.proofs.Common.{◌≡◌, ℕ, ◌+◌, ◌<◌, ◌≤◌, zero, suc, List, [], ◌∷◌, ◌++◌, ap, arith, get_or, inl, inr, length, map, subst, sym}
use Rattle.std.proofs.lemmas.Bool.{cases_lt}
use Rattle.std.proofs.lemmas.Grind.{common_steps}
use Rattle.std.proofs.lemmas.List.Elements.{All-map, All-push}
use Rattle.std.proofs.lemmas.List.Kept.{AllPairs-cons}
use Rattle.std.proofs.lemmas.List.Quantifiers.{all_pairs_push}
use Rattle.std.specs.List.{All, AllPairs}
use Rattle.pam_dispatch.specs.declared.state.State.{State}
use Rattle.pam_drawing.specs.picture.Columns.{IsLeftOf}
use Rattle.pam_drawing.specs.picture.Lanes.{IsNotAfter, rank}
use Rattle.pam_drawing.specs.declared.picture.layout.heights.Heights.{Heights}
use Rattle.pam_drawing.specs.picture.inner.Laned.{AreInOrder, IsHigher}

-- the pairs of what elements are mapped to
pub pairs-map : {A B : Type 0} (R : B → B → Type 0) (f : A → B) (xs : List A) → AllPairs (λ x y. R (f x) (f y)) xs → AllPairs R (map f xs)
pairs-map R f [] h = λ i j d before within. absurd (omega arith)
pairs-map R f (x ∷ xs) h =
    AllPairs-cons R (f x) (map f xs) (All-map (R (f x)) f xs (λ k d within. h 0 (suc k) d (omega arith) (omega arith)))
    (pairs-map R f xs (λ i j d before within. h (suc i) (suc j) d (omega arith) (omega arith)))

-- one more state, after all others
pub one-after : (states all : List State) (state : State) → AreInOrder (rank state + 1) states → all ≡ states ++ state ∷ []
    → AreInOrder (rank state + 1) all
one-after states all state h pushed =
    subst (AreInOrder (rank state + 1)) (sym pushed)
    (record {
      order = all_pairs_push IsNotAfter states state h.order (λ k d within. omega (arith, h.before k d within));
      before = All-push (λ (s : State). rank s < rank state + 1) states state h.before (omega arith);
    })

pub later : (low high : ℕ) (states : List State) → low ≤ high → AreInOrder low states → AreInOrder high states
later low high states most h = record {
  order = h.order;
  before = λ k d within. omega (arith, h.before k d within);
}

-- one more lane, below all others
pub next-lane : (heights all : List Heights) (new : Heights) (top : ℕ) → AllPairs IsHigher heights → All (λ (h : Heights). h.lane.middle + 36 ≤ top) heights
    → top + 18 ≤ new.lane.middle → all ≡ heights ++ new ∷ [] → AllPairs IsHigher all
next-lane heights all new top h ended below pushed =
    subst (AllPairs IsHigher) (sym pushed) (all_pairs_push IsHigher heights new h (λ k d within. omega (arith, ended k d within)))

-- all lanes end before the next one begins
pub next-top : (heights all : List Heights) (new : Heights) (top next : ℕ) → All (λ (h : Heights). h.lane.middle + 36 ≤ top) heights
    → top ≤ new.lane.middle → new.lane.middle + 36 ≤ next → all ≡ heights ++ new ∷ [] → All (λ (h : Heights). h.lane.middle + 36 ≤ next) all
next-top heights all new top next ended below room pushed =
    subst (All (λ (h : Heights). h.lane.middle + 36 ≤ next)) (sym pushed)
    (All-push (λ (h : Heights). h.lane.middle + 36 ≤ next) heights new (λ k d within. omega (arith, ended k d within)) room)

-- one column alone
pub first-column : (starts : List ℕ) (end : ℕ) → starts ≡ [] → AllPairs IsLeftOf (starts ++ end ∷ [])
first-column starts end none =
    subst (λ (xs : List ℕ). AllPairs IsLeftOf (xs ++ end ∷ [])) (sym none) (λ i j d before within. absurd (omega arith))

-- one more column
pub next-column : (starts all : List ℕ) (end next : ℕ) → AllPairs IsLeftOf (starts ++ end ∷ []) → IsLeftOf end next → all ≡ starts ++ end ∷ []
    → AllPairs IsLeftOf (all ++ next ∷ [])
next-column starts all end next h further pushed =
    let last : (d : ℕ) → get_or (starts ++ end ∷ []) (length starts) d ≡ end = λ d. grind (arith, common_steps) in
    let long : length (starts ++ end ∷ []) ≡ length starts + 1 = grind (arith, common_steps) in
    subst (λ (xs : List ℕ). AllPairs IsLeftOf (xs ++ next ∷ [])) (sym pushed)
    (all_pairs_push IsLeftOf (starts ++ end ∷ []) next h (λ k d within.
    elim (cases_lt k (length starts)) [
      | inl before ↦ omega (arith, h k (length starts) d before (omega arith), last d)
      | inr late ↦
          let this : k ≡ length starts = omega arith in
          omega (arith, ap (λ (n : ℕ). get_or (starts ++ end ∷ []) n d) this, last d)
    ]))
