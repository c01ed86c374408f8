-- Lists of which a part is taken.
use Rattle.std.proofs.Common.{◌≡◌, ◌∙◌, ◌+◌, ◌<◌, ◌≤◌, ℕ, Bool, true, false, List, Option, Some, None}
use Rattle.std.proofs.Common.{[], ◌∷◌, ◌++◌, ap, append-nil, arith, filter, filter_map, get_or, length, map, refl, take}
use Rattle.std.proofs.lemmas.Grind.{flat_map-append}
use Rattle.std.proofs.lemmas.List.{take_all, take_more}
use Rattle.std.proofs.lemmas.List.FromFn.{get_or-enumerate_from, length-enumerate_from}
use Rattle.std.specs.List.{enumerate_from, flat_map}

-- the values of those that pass a test by their values
pub map_filter : {A B : Type 0} (view : A → B) (test : B → Bool) (xs : List A) → map view (filter (λ x. test (view x)) xs) ≡ filter test (map view xs)
map_filter view test [] = refl
map_filter view test (x ∷ xs) = elim (test (view x)) as (λ (t : Bool). test (view x) ≡ t →
    map view (filter (λ y. test (view y)) (x ∷ xs)) ≡ filter test (map view (x ∷ xs))) [
      | true ↦ λ e. rw e (ap (λ ys. view x ∷ ys) (map_filter view test xs))
      | false ↦ λ e. rw e (map_filter view test xs)
    ] refl

-- what a function gives of the values
pub filter_map_view : {A B C : Type 0} (f : B → Option C) (view : A → B) (xs : List A) → filter_map (λ x. f (view x)) xs ≡ filter_map f (map view xs)
filter_map_view f view [] = refl
filter_map_view {C = C} f view (x ∷ xs) = elim (f (view x)) as (λ (o : Option C). f (view x) ≡ o →
    filter_map (λ y. f (view y)) (x ∷ xs) ≡ filter_map f (map view (x ∷ xs))) [
      | Some y ↦ λ e. rw e (ap (λ ys. y ∷ ys) (filter_map_view f view xs))
      | None ↦ λ e. rw e (filter_map_view f view xs)
    ] refl

-- a map of a map
pub map_map : {A B C : Type 0} (g : B → C) (f : A → B) (xs : List A) → map (λ x. g (f x)) xs ≡ map g (map f xs)
map_map g f [] = refl
map_map g f (x ∷ xs) = ap (λ ys. g (f x) ∷ ys) (map_map g f xs)

-- one more element of a list of lists
pub flat_more : {A B : Type 0} (f : A → List B) (xs : List A) (i : ℕ) (d : A) → i < length xs →
    flat_map f (take (i + 1) xs) ≡ flat_map f (take i xs) ++ f (get_or xs i d)
flat_more f xs i d h =
    ap (flat_map f) (take_more xs i d h) ∙ flat_map-append f (take i xs) (get_or xs i d ∷ [])
    ∙ ap (λ l. flat_map f (take i xs) ++ l) (append-nil (f (get_or xs i d)))

-- one more element with its index
pub numbered_more : {A B : Type 0} (f : ℕ × A → List B) (xs : List A) (i : ℕ) (d : A) → i < length xs →
    flat_map f (take (i + 1) (enumerate_from 0 xs)) ≡ flat_map f (take i (enumerate_from 0 xs)) ++ f (i, get_or xs i d)
numbered_more {A = A} f xs i d h =
    let long = length-enumerate_from 0 xs in
    let first : 0 + i ≡ i = omega arith in
    flat_more f (enumerate_from 0 xs) i (0, d) (omega (arith, long, h))
    ∙ ap (λ (x : ℕ × A). flat_map f (take i (enumerate_from 0 xs)) ++ f x)
    (get_or-enumerate_from 0 xs i (0, d) h ∙ ap (λ (k : ℕ). (k, get_or xs i d)) first)

-- all elements with their indices
pub numbered_all : {A B : Type 0} (f : ℕ × A → List B) (xs : List A) (i : ℕ) → length xs ≤ i →
    flat_map f (take i (enumerate_from 0 xs)) ≡ flat_map f (enumerate_from 0 xs)
numbered_all f xs i h =
    let long = length-enumerate_from 0 xs in
    ap (flat_map f) (take_all i (enumerate_from 0 xs) (omega (arith, long, h)))
