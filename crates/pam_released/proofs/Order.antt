-- The findings of a file are in order.
use Rattle.std.proofs.Common.{◌≡◌, ◌≢◌, ◌⊎◌, inl, inr, ◌≤◌, ◌<◌, ◌+◌, ◌&&◌, ◌||◌, ◌++◌, ◌∙◌, ℕ, Bool, true, false, List, [], ◌∷◌, map, take}
use Rattle.std.proofs.Common.{drop, cond, eqb, ap, sym, refl, subst, arith, one-add, eq-or-lt_of_le}
use Rattle.std.specs.Prelude.{nat_lt}
use Rattle.std.specs.List.{prefix_len}
use Rattle.std.proofs.lemmas.Bool.{and_parts, or_parts, or_left, or_right, eq-eqb, eqb-true, lt-ltb, ltb-true, ltb-false}
use Rattle.std.proofs.lemmas.List.{take-append-drop}
use Rattle.pam_released.specs.FindingLaws.{ComesFirst, IsInOrder, Member}
use Rattle.pam_released.specs.Findings.{comes_before, located, merged, number_of, only_if}
use Rattle.pam_released.specs.Findings.{those}
use Rattle.pam_released.specs.declared.difference.Difference.{Difference}
use Rattle.pam_released.specs.declared.finding.Finding.{Finding}
use Rattle.pam_released.proofs.RowLemmas.{from_located, from_merged, in_dropped, in_either, none_first}
use Rattle.pam_released.proofs.RowLemmas.{one_step}

-- BEFORE

Before : Finding → Finding → Type 0
Before x y = (x.line < y.line) ⊎ ((x.line ≡ y.line) × (number_of x.difference < number_of y.difference))

told : (x y : Finding) → comes_before y x ≡ true → Before x y
unfolding Before
told x y h =
    elim (nat_lt x.line y.line) as (λ (t : Bool). nat_lt x.line y.line ≡ t →
    (t || (eqb x.line y.line && nat_lt (number_of x.difference) (number_of y.difference))) ≡ true → Before x y) [
      | true ↦ λ e k. inl (ltb-true x.line y.line e)
      | false ↦ λ e k. let two = and_parts (eqb x.line y.line) (nat_lt (number_of x.difference) (number_of y.difference)) k in
          inr (eqb-true x.line y.line two.0, ltb-true (number_of x.difference) (number_of y.difference) two.1)
    ] refl h

tells : (x y : Finding) → Before x y → comes_before y x ≡ true
unfolding Before
tells x y (inl l) = or_left (nat_lt x.line y.line) _ (lt-ltb x.line y.line l)
tells x y (inr b) =
    or_right (nat_lt x.line y.line) (eqb x.line y.line && nat_lt (number_of x.difference) (number_of y.difference))
    (rw (eq-eqb x.line y.line b.0, lt-ltb (number_of x.difference) (number_of y.difference) b.1) refl)

through : (x y z : Finding) → Before x y → Before y z → Before x z
unfolding Before
through x y z (inl a) (inl b) = inl (omega (arith, a, b))
through x y z (inl a) (inr b) = inl (omega (arith, a, b.0))
through x y z (inr a) (inl b) = inl (omega (arith, a.0, b))
through x y z (inr a) (inr b) = inr (a.0 ∙ b.0, omega (arith, a.1, b.1))

-- a finding that does not come before one with another number comes after it
after_all : (f g : Finding) → number_of f.difference ≢ number_of g.difference → comes_before f g ≡ false → Before f g
unfolding Before
after_all f g n h =
    let two = or_parts (nat_lt g.line f.line) (eqb g.line f.line && nat_lt (number_of g.difference) (number_of f.difference)) h in
    let low : f.line ≤ g.line = ltb-false g.line f.line two.0 in
    either low two.1 (eq-or-lt_of_le low)
  where
    either : f.line ≤ g.line → (eqb g.line f.line && nat_lt (number_of g.difference) (number_of f.difference)) ≡ false →
        (f.line ≡ g.line) ⊎ (f.line < g.line) → Before f g
    either low k (inr l) = inl l
    either low k (inl e) =
        let more : nat_lt (number_of g.difference) (number_of f.difference) ≡ false =
        ap (λ (t : Bool). t && nat_lt (number_of g.difference) (number_of f.difference)) (sym (eq-eqb g.line f.line (sym e))) ∙ k in
        let high : number_of f.difference ≤ number_of g.difference = ltb-false (number_of g.difference) (number_of f.difference) more in
        inr (e, omega (arith, high, n))

-- LISTS IN ORDER

from_first : (x y : Finding) (ys : List Finding) → ComesFirst x ys → Member y ys → comes_before y x ≡ true
from_first x y [] c m = absurd m
from_first x y (z ∷ ys) c (inl e) = subst (λ (w : Finding). comes_before w x ≡ true) e c.0
from_first x y (z ∷ ys) c (inr m) = from_first x y ys c.1 m

to_first : (x : Finding) (ys : List Finding) → ((y : Finding) → Member y ys → comes_before y x ≡ true) → ComesFirst x ys
to_first x [] f = tt
to_first x (y ∷ ys) f = (f y (inl refl), to_first x ys (λ z m. f z (inr m)))

pub both_in_order : (xs ys : List Finding) → IsInOrder xs → IsInOrder ys → ((x y : Finding) → Member x xs → Member y ys → comes_before y x ≡ true) →
    IsInOrder (xs ++ ys)
both_in_order [] ys a b f = b
both_in_order (x ∷ xs) ys a b f = (
  to_first x (xs ++ ys) (λ y m. here y (in_either y xs ys m)),
  both_in_order xs ys a.1 b (λ z y m k. f z y (inr m) k),
)
  where
    here : (y : Finding) → Member y xs ⊎ Member y ys → comes_before y x ≡ true
    here y (inl m) = from_first x y xs a.0 m
    here y (inr m) = f x y (inl refl) m

pub record Split (xs ys : List Finding) : Type 0 where
  pub front : IsInOrder xs
  pub back : IsInOrder ys
  pub across : (x y : Finding) → Member x xs → Member y ys → comes_before y x ≡ true

split : (xs ys : List Finding) → IsInOrder (xs ++ ys) → Split xs ys
split [] ys o = record { front = tt; back = o; across = λ x y m k. absurd m }
split (x ∷ xs) ys o =
    let more = split xs ys o.1 in
    record {
      front = (to_first x xs (λ y m. from_first x y (xs ++ ys) o.0 (in_left y xs m)), more.front);
      back = more.back;
      across = λ z y m k. either z y m k more.across;
    }
  where
    in_left : (y : Finding) (zs : List Finding) → Member y zs → Member y (zs ++ ys)
    in_left y [] m = absurd m
    in_left y (z ∷ zs) (inl e) = inl e
    in_left y (z ∷ zs) (inr m) = inr (in_left y zs m)

    in_right : (y : Finding) (zs : List Finding) → Member y ys → Member y (zs ++ ys)
    in_right y [] m = m
    in_right y (z ∷ zs) m = inr (in_right y zs m)

    either : (z y : Finding) → Member z (x ∷ xs) → Member y ys → ((a b : Finding) → Member a xs → Member b ys → comes_before b a ≡ true) →
        comes_before y z ≡ true
    either z y (inl e) k f = subst (λ (w : Finding). comes_before y w ≡ true) e (from_first x y (xs ++ ys) o.0 (in_right y xs k))
    either z y (inr m) k f = f z y m k

-- MERGED

passes : (p : Finding → Bool) (x : Finding) (gs : List Finding) → Member x (take (prefix_len p gs) gs) → p x ≡ true
passes p x [] m = absurd m
passes p x (g ∷ gs) m =
    elim (p g) as (λ (t : Bool). p g ≡ t → Member x (take (cond t (1 + prefix_len p gs) 0) (g ∷ gs)) → p x ≡ true) [
      | true ↦ λ e k. more e (rw one-add at k) (λ i. passes p x gs i)
      | false ↦ λ e k. absurd k
    ] refl m
  where
    more : p g ≡ true → Member x (g ∷ take (prefix_len p gs) gs) → (Member x (take (prefix_len p gs) gs) → p x ≡ true) → p x ≡ true
    more e (inl s) rest = subst (λ (w : Finding). p w ≡ true) s e
    more e (inr k) rest = rest k

-- the first that is dropped does not pass, and the others come after it
first_dropped : (p : Finding → Bool) (f y : Finding) (gs : List Finding) → IsInOrder gs →
    ((h : Finding) → Member h gs → p h ≡ false → Before f h) → Member y (drop (prefix_len p gs) gs) → Before f y
first_dropped p f y [] o b m = absurd m
first_dropped p f y (g ∷ gs) o b m =
    elim (p g) as (λ (t : Bool). p g ≡ t → Member y (drop (cond t (1 + prefix_len p gs) 0) (g ∷ gs)) → Before f y) [
      | true ↦ λ e k. first_dropped p f y gs o.1 (λ h i. b h (inr i)) (rw one-add at k)
      | false ↦ λ e k. here e k
    ] refl m
  where
    here : p g ≡ false → Member y (g ∷ gs) → Before f y
    here e (inl s) = subst (λ (w : Finding). Before f w) s (b g (inl refl) e)
    here e (inr k) = through f g y (b g (inl refl) e) (told g y (from_first g y gs o.0 k))

pub merge_in_order : (fs gs : List Finding) → IsInOrder fs → IsInOrder gs →
    ((x y : Finding) → Member x fs → Member y gs → number_of x.difference ≢ number_of y.difference) → IsInOrder (merged fs gs)
merge_in_order [] gs a b n = subst IsInOrder (sym (none_first gs)) b
merge_in_order (f ∷ fs) gs a b n =
    subst IsInOrder (sym (one_step f fs gs)) (both_in_order (take k gs) (f ∷ merged fs (drop k gs)) parts.front (
      to_first f (merged fs (drop k gs)) (λ y m. tells f y (behind y (from_merged y fs (drop k gs) m))),
      merge_in_order fs (drop k gs) a.1 parts.back (λ x y m i. n x y (inr m) (in_dropped y k gs i)),
    ) across)
  where
    k : ℕ
    k = prefix_len (comes_before f) gs

    parts : Split (take k gs) (drop k gs)
    parts = split (take k gs) (drop k gs) (subst IsInOrder (sym (take-append-drop k gs)) b)

    behind : (y : Finding) → Member y fs ⊎ Member y (drop k gs) → Before f y
    behind y (inl m) = told f y (from_first f y fs a.0 m)
    behind y (inr m) = first_dropped (comes_before f) f y gs b (λ h i e. after_all f h (n f h (inl refl) i) e) m

    later : (x y : Finding) → Member x (take k gs) → Member y fs ⊎ Member y (drop k gs) → comes_before y x ≡ true
    later x y m (inl i) = tells x y (through x f y (told x f (passes (comes_before f) x gs m)) (behind y (inl i)))
    later x y m (inr i) = parts.across x y m i

    across : (x y : Finding) → Member x (take k gs) → Member y (f ∷ merged fs (drop k gs)) → comes_before y x ≡ true
    across x y m (inl e) = subst (λ (w : Finding). comes_before w x ≡ true) e (passes (comes_before f) x gs m)
    across x y m (inr i) = later x y m (from_merged y fs (drop k gs) i)

-- THE DIFFERENCES OF A LINE

unfoldable pub rises : ℕ → List (Bool × Difference) → Bool
rises k [] = true
rises k (p ∷ ps) = nat_lt k (number_of p.1) && rises (number_of p.1) ps

-- all numbers pass a test
unfoldable pub numbers : (ℕ → Bool) → List (Bool × Difference) → Bool
numbers q [] = true
numbers q (p ∷ ps) = q (number_of p.1) && numbers q ps

pub all_pass : (q : ℕ → Bool) (ps : List (Bool × Difference)) (d : Difference) → numbers q ps ≡ true → Member d (those ps) → q (number_of d) ≡ true
unfolding numbers
all_pass q [] d h m = absurd m
all_pass q ((t, e) ∷ ps) d h m =
    let two = and_parts (q (number_of e)) (numbers q ps) h in by t two.0 (λ k. all_pass q ps d two.1 k) m
  where
    by : (u : Bool) → q (number_of e) ≡ true → (Member d (those ps) → q (number_of d) ≡ true) → Member d (only_if u e ++ those ps) → q (number_of d) ≡ true
    by true a more (inl s) = subst (λ (w : Difference). q (number_of w) ≡ true) s a
    by true a more (inr k) = more k
    by false a more k = more k

more_than : (k : ℕ) (ps : List (Bool × Difference)) (d : Difference) → rises k ps ≡ true → Member d (those ps) → k < number_of d
unfolding rises
more_than k [] d h m = absurd m
more_than k ((t, e) ∷ ps) d h m =
    let two = and_parts (nat_lt k (number_of e)) (rises (number_of e) ps) h in
    by t (ltb-true k (number_of e) two.0) (λ i. more_than (number_of e) ps d two.1 i) m
  where
    by : (u : Bool) → k < number_of e → (Member d (those ps) → number_of e < number_of d) → Member d (only_if u e ++ those ps) → k < number_of d
    by true a more (inl s) = subst (λ (w : Difference). k < number_of w) s a
    by true a more (inr i) = let l : number_of e < number_of d = more i in omega (arith, a, l)
    by false a more i = let l : number_of e < number_of d = more i in omega (arith, a, l)

by_number : (x y : Finding) → x.line ≡ y.line → number_of x.difference < number_of y.difference → Before x y
unfolding Before
by_number x y l m = inr (l, m)

pub those_in_order : (n k : ℕ) (ps : List (Bool × Difference)) → rises k ps ≡ true → IsInOrder (map (located n) (those ps))
unfolding rises
those_in_order n k [] h = tt
those_in_order n k ((t, e) ∷ ps) h =
    let two = and_parts (nat_lt k (number_of e)) (rises (number_of e) ps) h in by t two.1 (those_in_order n (number_of e) ps two.1)
  where
    by : (u : Bool) → rises (number_of e) ps ≡ true → IsInOrder (map (located n) (those ps)) → IsInOrder (map (located n) (only_if u e ++ those ps))
    by true b rest = (
      to_first (located n e) (map (located n) (those ps)) (λ y m.
          let two = from_located y n (those ps) m in
          tells (located n e) y (by_number (located n e) y (sym two.0) (more_than (number_of e) ps y.difference b two.1))),
      rest,
    )
    by false b rest = rest

by_line : (x y : Finding) → x.line < y.line → Before x y
unfolding Before
by_line x y l = inl l

-- an earlier line
pub earlier : (x y : Finding) → x.line < y.line → comes_before y x ≡ true
earlier x y l = tells x y (by_line x y l)
