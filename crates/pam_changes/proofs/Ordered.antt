-- Lists whose elements stand in an order.
use Rattle.std.proofs.Common.{ℕ, ◌<◌, zero, suc, List, [], ◌∷◌, ◌++◌, length, get_or, map}
use Rattle.std.proofs.Common.{arith, inl, inr, refl, subst, sym}
use Rattle.std.proofs.lemmas.List.FromFn.{get_or-range_with_len, length-range_with_len}
use Rattle.std.proofs.lemmas.List.Kept.{AllPairs-cons}
use Rattle.std.specs.List.{All, AllPairs, Any, Contains, range_with_len}
use Rattle.pam_paths.proofs.Listings.{Member-cases, Member-left, Member-map_back, Member-right}
use Rattle.pam_text.specs.Members.{Member}

-- MEMBERS BY THEIR PLACE

pub member-at : {X : Type 0} (xs : List X) (k : ℕ) (d : X) → k < length xs → Member (get_or xs k d) xs
unfolding Member
member-at [] k d h = absurd (omega (arith, h))
member-at (x ∷ xs) zero d h = inl refl
member-at (x ∷ xs) (suc k) d h = inr (member-at xs k d (omega (arith, h)))

pub contains-member : {X : Type 0} (xs : List X) (x : X) → Contains xs x → Member x xs
contains-member xs x h = subst (λ y. Member y xs) h.2 (member-at xs h.0 x h.1)

pub member-contains : {X : Type 0} (xs : List X) (x : X) → Member x xs → Contains xs x
unfolding Member
member-contains [] x h = absurd h
member-contains (y ∷ ys) x (inl e) = (zero, omega arith, sym e)
member-contains (y ∷ ys) x (inr h) =
    let again = member-contains ys x h in
    let within = again.1 in
    (suc again.0, omega (arith, within), again.2)

pub all-members : {X : Type 0} (P : X → Type 0) (xs : List X) → ((x : X) → Member x xs → P x) → All P xs
all-members P xs each k d within = each (get_or xs k d) (member-at xs k d within)

pub any-member : {X : Type 0} (P : X → Type 0) (xs : List X) (x : X) → Member x xs → P x → Any P xs
any-member P xs x h p = let at = member-contains xs x h in (at.0, x, at.1, at.2, p)

-- EACH ELEMENT AND EACH LATER ONE

unfoldable pub Pairs : {X : Type 0} → (X → X → Type 0) → List X → Type 0
Pairs R [] = Unit {0}
Pairs R (x ∷ xs) = ((y : _) → Member y xs → R x y) × Pairs R xs

module _ {X : Type 0} (R : X → X → Type 0) where
  pub pairs-all : (xs : List X) → Pairs R xs → AllPairs R xs
  unfolding Pairs
  pairs-all [] h = λ i j d before within. absurd (omega (arith, within))
  pairs-all (x ∷ xs) h = AllPairs-cons R x xs (all-members (R x) xs h.0) (pairs-all xs h.1)

  pub all-pairs : (xs : List X) → AllPairs R xs → Pairs R xs
  unfolding Pairs
  all-pairs [] h = tt
  all-pairs (x ∷ xs) h = (
    λ y is.
        let at = member-contains xs y is in
        let within = at.1 in
        subst (R x) at.2 (h zero (suc at.0) y (omega arith) (omega (arith, within))),
    all-pairs xs (λ i j d before within. h (suc i) (suc j) d (omega (arith, before)) (omega (arith, within))),
  )

  pub pairs-append : (xs ys : List X) → Pairs R xs → Pairs R ys → ((x y : X) → Member x xs → Member y ys → R x y) → Pairs R (xs ++ ys)
  unfolding Pairs Member
  pairs-append [] ys front back across = back
  pairs-append (x ∷ xs) ys front back across = (
    λ y is. elim (Member-cases y xs ys is) [ inl k ↦ front.0 y k | inr k ↦ across x y (inl refl) k ],
    pairs-append xs ys front.1 back (λ z y k. across z y (inr k)),
  )

  pub pairs-front : (xs ys : List X) → Pairs R (xs ++ ys) → Pairs R xs
  unfolding Pairs
  pairs-front [] ys h = tt
  pairs-front (x ∷ xs) ys h = (λ y is. h.0 y (Member-left y xs ys is), pairs-front xs ys h.1)

  pub pairs-back : (xs ys : List X) → Pairs R (xs ++ ys) → Pairs R ys
  unfolding Pairs
  pairs-back [] ys h = h
  pairs-back (x ∷ xs) ys h = pairs-back xs ys h.1

  pub pairs-across : (xs ys : List X) → Pairs R (xs ++ ys) → (x y : X) → Member x xs → Member y ys → R x y
  unfolding Pairs Member
  pairs-across [] ys h x y front back = absurd front
  pairs-across (z ∷ xs) ys h x y (inl e) back = subst (λ w. R w y) (sym e) (h.0 y (Member-right y xs ys back))
  pairs-across (z ∷ xs) ys h x y (inr front) back = pairs-across xs ys h.1 x y front back

  pub pairs-weaker : (Q : X → X → Type 0) (xs : List X) → ((x y : X) → Member x xs → Member y xs → R x y → Q x y) → Pairs R xs → Pairs Q xs
  unfolding Pairs Member
  pairs-weaker Q [] f h = tt
  pairs-weaker Q (x ∷ xs) f h =
      (λ y is. f x y (inl refl) (inr is) (h.0 y is), pairs-weaker Q xs (λ y z k l. f y z (inr k) (inr l)) h.1)

  pub pairs-map : {Y : Type 0} (f : Y → X) (ys : List Y) → Pairs (λ a b. R (f a) (f b)) ys → Pairs R (map f ys)
  unfolding Pairs
  pairs-map f [] h = tt
  pairs-map f (y ∷ ys) h = (
    λ x is. let at = Member-map_back f x ys is in subst (R (f y)) (sym at.2) (h.0 at.0 at.1),
    pairs-map f ys h.1,
  )

-- numbers in a row rise
pub range-rises : (first n : ℕ) → AllPairs (λ one other. one < other) (range_with_len first n)
range-rises first n i j d before within =
    let long = length-range_with_len first n in
    let high : j < n = omega (arith, long, within) in
    let low : i < n = omega (arith, before, high) in
    let one = get_or-range_with_len first n i d low in
    let other = get_or-range_with_len first n j d high in
    omega (arith, one, other, before)
