-- The elements of a list that are left, and what is made of each.
use Rattle.std.proofs.Common.{◌≡◌, ◌∙◌, ◌+◌, ◌<◌, ◌≤◌, ◌||◌, ℕ, suc, Bool, List, [], ◌∷◌, ◌++◌}
use Rattle.std.proofs.Common.{add-one, ap, append_assoc, append-nil, drop, get_or, length, map, refl, sym}
use Rattle.std.proofs.Math.Seq.{drop-cons}
use Rattle.std.proofs.lemmas.List.{at_drop_all}
use Rattle.std.specs.List.{list_any}

-- a test of what elements are seen as
pub any_seen : {X Y : Type 0} (test : Y → Bool) (view : X → Y) (xs : List X) → list_any (λ x. test (view x)) xs ≡ list_any test (map view xs)
any_seen test view [] = refl
any_seen test view (x ∷ xs) = ap (λ b. test (view x) || b) (any_seen test view xs)

-- the element at an index is the first of those that are left
pub first_left : {X : Type 0} (xs : List X) (i : ℕ) (x : X) → i < length xs → x ≡ get_or xs i x → drop i xs ≡ x ∷ drop (i + 1) xs
first_left xs i x within is = rw add-one (drop-cons xs i x within ∙ ap (λ y. y ∷ drop (suc i) xs) (sym is))

-- what is made of elements, one after another, is what is made of all
pub made_more : {X Y : Type 0} (of : List X → List Y) (xs : List X) (i : ℕ) (x : X) (old now new : List Y) →
    ((y : X) (ys : List X) → of (y ∷ ys) ≡ of (y ∷ []) ++ of ys) → i < length xs → x ≡ get_or xs i x →
    now ++ of (drop i xs) ≡ old → new ≡ now ++ of (x ∷ []) → new ++ of (drop (i + 1) xs) ≡ old
made_more of xs i x old now new splits within is so_far added =
    ap (λ n. n ++ of (drop (i + 1) xs)) added
    ∙ append_assoc now (of (x ∷ [])) (of (drop (i + 1) xs))
    ∙ ap (λ ys. now ++ ys) (sym (splits x (drop (i + 1) xs)))
    ∙ ap (λ ys. now ++ of ys) (sym (first_left xs i x within is))
    ∙ so_far

pub made_all : {X Y : Type 0} (of : List X → List Y) (xs : List X) (i : ℕ) (old now : List Y) →
    of [] ≡ [] → length xs ≤ i → now ++ of (drop i xs) ≡ old → now ≡ old
made_all of xs i old now none past so_far = sym (ap (λ ys. now ++ ys) (at_drop_all of xs i past ∙ none) ∙ append-nil now) ∙ so_far
