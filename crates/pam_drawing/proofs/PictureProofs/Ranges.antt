-- Lists whose elements have the values of the numbers in order.
use Rattle.std.proofs.Common.{◌≡◌, ◌∙◌, ℕ, ◌+◌, ◌<◌, zero, suc, List, [], ◌∷◌, ◌++◌, Some, add-one, ap, arith, drop, get_or, length, map, refl, slice_get, sym}
use Rattle.std.proofs.lemmas.List.{length-map, map-append}
use Rattle.std.proofs.lemmas.List.FromFn.{length-map-range_with_len}
use Rattle.std.proofs.lemmas.Option.{slice_get_within}
use Rattle.std.specs.List.{range_with_len}
use Rattle.std.specs.Option.{option_map_or}

pub range-more : (a n : ℕ) → range_with_len a (suc n) ≡ range_with_len a n ++ (a + n) ∷ []
range-more a zero = ap (λ (m : ℕ). m ∷ []) (omega arith)
range-more a (suc n) =
    let next : a + 1 + n ≡ a + suc n = omega arith in
    ap (λ (l : List ℕ). a ∷ l) (range-more (a + 1) n ∙ ap (λ (m : ℕ). range_with_len (a + 1) n ++ m ∷ []) next)

pub same : {A : Type 0} {x y : A} → Some x ≡ Some y → x ≡ y
same {A} {x} {y} e = ap (λ o. option_map_or (λ (z : A). z) o x) e

module _ {A B : Type 0} (g : A → B) (f : ℕ → B) where
  -- one more element, with the value of the next number
  pub mapped-more : (before all : List A) (new : A) (i : ℕ) → map g before ≡ map f (range_with_len 0 i) → g new ≡ f i → all ≡ before ++ new ∷ []
      → map g all ≡ map f (range_with_len 0 (i + 1))
  mapped-more before all new i so-far is pushed =
      let numbers = range_with_len 0 i in
      let this : 0 + i ≡ i = omega arith in
      ap (map g) pushed ∙ map-append g before (new ∷ []) ∙ ap (λ (l : List B). l ++ g new ∷ []) so-far ∙ ap (λ (x : B). map f numbers ++ x ∷ []) is
      ∙ sym (ap (map f) (ap (range_with_len 0) (add-one i) ∙ range-more 0 i) ∙ map-append f numbers ((0 + i) ∷ [])
      ∙ ap (λ (k : ℕ). map f numbers ++ f k ∷ []) this)

  entry-from : (a n k : ℕ) (xs : List A) → map g xs ≡ map f (range_with_len a n) → k < n → (x : A) × (slice_get xs k ≡ Some x) × (g x ≡ f (a + k))
  entry-from a zero k xs e h = absurd (omega (arith, h))
  entry-from a (suc n) k [] e h = absurd (omega (arith, ap length e))
  entry-from a (suc n) zero (x ∷ xs) e h =
      let first : a ≡ a + 0 = omega arith in
      (x, refl, ap (λ (l : List B). get_or l 0 (g x)) e ∙ ap f first)
  entry-from a (suc n) (suc k) (x ∷ xs) e h =
      let r = entry-from (a + 1) n k xs (ap (drop 1) e) (omega (arith, h)) in
      let next : a + 1 + k ≡ a + suc k = omega arith in
      (r.0, r.1, r.2 ∙ ap f next)

  -- the element that has the value of a number
  pub entry : (n k : ℕ) (xs : List A) → map g xs ≡ map f (range_with_len 0 n) → k < n → (x : A) × (slice_get xs k ≡ Some x) × (g x ≡ f k)
  entry n k xs e h =
      let r = entry-from 0 n k xs e h in
      let this : 0 + k ≡ k = omega arith in
      (r.0, r.1, r.2 ∙ ap f this)

  -- the number whose value an element has
  pub numbered : (n k : ℕ) (xs : List A) (x : A) → map g xs ≡ map f (range_with_len 0 n) → slice_get xs k ≡ Some x → (k < n) × (g x ≡ f k)
  numbered n k xs x e at =
      let long : length xs ≡ n = sym (length-map xs g) ∙ ap length e ∙ length-map-range_with_len f 0 n in
      let within : k < n = omega (arith, long, slice_get_within xs k x at) in
      let r = entry n k xs e within in
      (within, ap g (same (sym at ∙ r.1)) ∙ r.2)
