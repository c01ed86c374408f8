-- The first items of a list, and those after them, where there may be fewer.
use Rattle.std.proofs.Common.{◌≡◌, List, ℕ, drop, length, min, take}
use Rattle.std.proofs.lemmas.List.{drop_min, take_min}

pub take_fewer : (n : ℕ) (xs : List ℕ) → take (min n (length xs)) xs ≡ take n xs
take_fewer n xs = take_min n xs

pub drop_fewer : (n : ℕ) (xs : List ℕ) → drop (min n (length xs)) xs ≡ drop n xs
drop_fewer n xs = drop_min n xs
