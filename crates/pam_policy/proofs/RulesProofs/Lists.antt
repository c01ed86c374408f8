-- Members of lists.
use Rattle.std.proofs.Common.{◌≡◌, ◌⊎◌, Bool, true, List, [], ◌∷◌, ◌++◌, map, inl, inr, refl, sym, ◌∙◌, ap, subst, arith, suc, zero}
use Rattle.std.proofs.lemmas.Bool.{false≢true, or_cases, or_left, or_right}
use Rattle.std.specs.List.{list_all, list_any}
use Rattle.std.specs.Prelude.{◌&&◌, All, IfOk, Result, Ok, Err}
use Rattle.pam_text.specs.Members.{Member}

pub any-back : {X : Type 0} (test : X → Bool) (xs : List X) → list_any test xs ≡ true → (x : X) × Member x xs × (test x ≡ true)
unfolding Member
any-back test [] h = absurd (false≢true h)
any-back test (x ∷ xs) h =
    elim (or_cases (test x) (list_any test xs) h) [
      | inl t ↦ (x, inl refl, t)
      | inr more ↦ let back = any-back test xs more in (back.0, inr back.1, back.2)
    ]

pub any-of : {X : Type 0} (test : X → Bool) (xs : List X) (x : X) → Member x xs → test x ≡ true → list_any test xs ≡ true
unfolding Member
any-of test [] x h t = absurd h
any-of test (y ∷ xs) x (inl e) t = or_left (test y) (list_any test xs) (ap test (sym e) ∙ t)
any-of test (y ∷ xs) x (inr i) t = or_right (test y) (list_any test xs) (any-of test xs x i t)

pub all-each : {X : Type 0} (P : X → Type 0) (xs : List X) → ((x : X) → Member x xs → P x) → All P xs
unfolding Member
all-each P [] h k d l = absurd (omega (arith, l))
all-each P (x ∷ xs) h zero d l = h x (inl refl)
all-each P (x ∷ xs) h (suc k) d l = all-each P xs (λ y i. h y (inr i)) k d (omega (arith, l))

pub all-map : {X Y : Type 0} (test : Y → Bool) (view : X → Y) (xs : List X) → list_all test (map view xs) ≡ list_all (λ x. test (view x)) xs
all-map test view [] = refl
all-map test view (x ∷ xs) = ap (λ (t : Bool). test (view x) && t) (all-map test view xs)

-- what is so of a result
pub ok-map : {T E : Type 0} (P Q : T → Type 0) (r : Result T E) → ((x : T) → P x → Q x) → IfOk r P → IfOk r Q
ok-map P Q (Ok x) to h = to x h
ok-map P Q (Err e) to h = h

-- a member, with those before and after it
pub member-split : {X : Type 0} (xs : List X) (x : X) → Member x xs → (before : List X) × (after : List X) × (xs ≡ before ++ x ∷ after)
unfolding Member
member-split {X} [] x h = absurd h
member-split {X} (y ∷ xs) x (inl e) = ([], xs, ap (λ (z : X). z ∷ xs) (sym e))
member-split {X} (y ∷ xs) x (inr i) =
    let deeper = member-split xs x i in
    (y ∷ deeper.0, deeper.1, ap (λ (zs : List X). y ∷ zs) deeper.2)

-- each member, or one that is none
pub each-or : {X : Type 0} (P : X → Type 0) → ((x : X) → P x ⊎ (P x → ⊥)) → (xs : List X) →
    ((x : X) → Member x xs → P x) ⊎ ((x : X) × Member x xs × (P x → ⊥))
unfolding Member
each-or P decide [] = inl (λ x i. absurd i)
each-or P decide (x ∷ xs) =
    elim (decide x) [
      | inr fails ↦ inr (x, inl refl, fails)
      | inl holds ↦ elim (each-or P decide xs) [
        | inl all ↦ inl (λ y i. elim i [ inl e ↦ subst P (sym e) holds | inr j ↦ all y j ])
        | inr one ↦ inr (one.0, inr one.1, one.2)
      ]
    ]

-- a member, or none
pub some-or : {X : Type 0} (P : X → Type 0) → ((x : X) → P x ⊎ (P x → ⊥)) → (xs : List X) →
    ((x : X) × Member x xs × P x) ⊎ ((x : X) → Member x xs → P x → ⊥)
unfolding Member
some-or P decide [] = inr (λ x i p. i)
some-or P decide (x ∷ xs) =
    elim (decide x) [
      | inl holds ↦ inl (x, inl refl, holds)
      | inr fails ↦ elim (some-or P decide xs) [
        | inl one ↦ inl (one.0, inr one.1, one.2)
        | inr none ↦ inr (λ y i p. elim i [ inl e ↦ fails (subst P e p) | inr j ↦ none y j p ])
      ]
    ]
