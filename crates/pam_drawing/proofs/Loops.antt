-- Texts that are written element by element: what is written where a write fails.
use Rattle.std.proofs.Common.{◌≡◌, ℕ, ◌+◌, ◌<◌, List, Option, length, take, drop, get_or}
use Rattle.std.specs.List.{enumerate_from, flat_map, range_with_len}
use Rattle.pam_codes.proofs.Writing.{front-is, front-longer, front-then}
use Rattle.pam_codes.specs.Out.{Out, TookAll, TookFront}
use Rattle.pam_drawing.proofs.Indices.{indexed-at, range-at}
use Rattle.pam_text.proofs.FlatTexts.{flat_map-at}

module _ {W : Type 0} (contents : W → Option (List ℕ)) {old mid new : Out W} where
  -- at an element of a list
  pub failed-at : {A : Type 0} (f : A → List ℕ) (xs : List A) (i : ℕ) (d : A) → i < length xs
      → TookAll contents old mid (flat_map f (take i xs)) → TookFront contents mid new (f (get_or xs i d)) → TookFront contents old new (flat_map f xs)
  failed-at f xs i d h before at = front-is (front-longer (flat_map f (drop (i + 1) xs)) (front-then before at)) (flat_map-at f xs i d h)

  -- at an element with its index
  pub failed-indexed : {A : Type 0} (f : ℕ × A → List ℕ) (xs : List A) (i : ℕ) (d : A) → i < length xs
      → TookAll contents old mid (flat_map f (take i (enumerate_from 0 xs))) → TookFront contents mid new (f (i, get_or xs i d))
      → TookFront contents old new (flat_map f (enumerate_from 0 xs))
  failed-indexed f xs i d h before at =
      front-is (front-longer (flat_map f (drop (i + 1) (enumerate_from 0 xs))) (front-then before at)) (indexed-at f xs i d h)

  -- at a number
  pub failed-number : (f : ℕ → List ℕ) (n i j : ℕ) → i < n → 0 + i ≡ j
      → TookAll contents old mid (flat_map f (take i (range_with_len 0 n))) → TookFront contents mid new (f j)
      → TookFront contents old new (flat_map f (range_with_len 0 n))
  failed-number f n i j h e before at =
      front-is (front-longer (flat_map f (drop (i + 1) (range_with_len 0 n))) (front-then before at)) (range-at f 0 n i j h e)
