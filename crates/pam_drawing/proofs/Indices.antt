-- The text of numbers in order, and of elements with their indices.
use Rattle.std.proofs.Common.{◌≡◌, ℕ, ◌+◌, ◌<◌, ◌≤◌, List, ◌++◌, length, take, drop, get_or, arith, ap, sym, ◌∙◌}
use Rattle.std.proofs.lemmas.List.{take_all}
use Rattle.std.proofs.lemmas.List.FromFn.{get_or-enumerate_from, get_or-range_with_len, length-enumerate_from, length-range_with_len}
use Rattle.std.specs.List.{enumerate_from, flat_map, range_with_len}
use Rattle.pam_text.proofs.FlatTexts.{flat_map-at, flat_map-take}

-- the numbers from a on
pub range-push : (f : ℕ → List ℕ) (a n i j : ℕ) → i < n → a + i ≡ j →
    flat_map f (take (i + 1) (range_with_len a n)) ≡ flat_map f (take i (range_with_len a n)) ++ f j
range-push f a n i j h e =
    let long = length-range_with_len a n in
    flat_map-take f (range_with_len a n) i 0 (omega (arith, long, h))
    ∙ ap (λ (x : ℕ). flat_map f (take i (range_with_len a n)) ++ f x) (get_or-range_with_len a n i 0 h ∙ e)

pub range-at : (f : ℕ → List ℕ) (a n i j : ℕ) → i < n → a + i ≡ j →
    (flat_map f (take i (range_with_len a n)) ++ f j) ++ flat_map f (drop (i + 1) (range_with_len a n)) ≡ flat_map f (range_with_len a n)
range-at f a n i j h e =
    let long = length-range_with_len a n in
    ap (λ (x : ℕ). (flat_map f (take i (range_with_len a n)) ++ f x) ++ flat_map f (drop (i + 1) (range_with_len a n)))
    (sym (get_or-range_with_len a n i 0 h ∙ e))
    ∙ flat_map-at f (range_with_len a n) i 0 (omega (arith, long, h))

-- all numbers from a on
pub range-all : (f : ℕ → List ℕ) (a n i : ℕ) → n ≤ i → flat_map f (take i (range_with_len a n)) ≡ flat_map f (range_with_len a n)
range-all f a n i h =
    let long = length-range_with_len a n in
    ap (flat_map f) (take_all i (range_with_len a n) (omega (arith, long, h)))

-- elements with their indices
module _ {A : Type 0} (f : ℕ × A → List ℕ) (xs : List A) (i : ℕ) (d : A) where
  indexed-is : i < length xs → get_or (enumerate_from 0 xs) i (0, d) ≡ (i, get_or xs i d)
  indexed-is h =
      let first : 0 + i ≡ i = omega arith in
      get_or-enumerate_from 0 xs i (0, d) h ∙ ap (λ (k : ℕ). (k, get_or xs i d)) first

  pub indexed-push : i < length xs →
      flat_map f (take (i + 1) (enumerate_from 0 xs)) ≡ flat_map f (take i (enumerate_from 0 xs)) ++ f (i, get_or xs i d)
  indexed-push h =
      let long = length-enumerate_from 0 xs in
      flat_map-take f (enumerate_from 0 xs) i (0, d) (omega (arith, long, h))
      ∙ ap (λ (x : ℕ × A). flat_map f (take i (enumerate_from 0 xs)) ++ f x) (indexed-is h)

  pub indexed-at : i < length xs →
      (flat_map f (take i (enumerate_from 0 xs)) ++ f (i, get_or xs i d)) ++ flat_map f (drop (i + 1) (enumerate_from 0 xs))
      ≡ flat_map f (enumerate_from 0 xs)
  indexed-at h =
      let long = length-enumerate_from 0 xs in
      ap (λ (x : ℕ × A). (flat_map f (take i (enumerate_from 0 xs)) ++ f x) ++ flat_map f (drop (i + 1) (enumerate_from 0 xs)))
      (sym (indexed-is h))
      ∙ flat_map-at f (enumerate_from 0 xs) i (0, d) (omega (arith, long, h))

-- all elements
pub indexed-all : {A : Type 0} (f : ℕ × A → List ℕ) (xs : List A) (i : ℕ) → length xs ≤ i →
    flat_map f (take i (enumerate_from 0 xs)) ≡ flat_map f (enumerate_from 0 xs)
indexed-all f xs i h =
    let long = length-enumerate_from 0 xs in
    ap (flat_map f) (take_all i (enumerate_from 0 xs) (omega (arith, long, h)))
