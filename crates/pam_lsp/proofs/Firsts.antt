-- The first items of a list, where there may be fewer, and the lines of a text.
use Rattle.std.proofs.Common.{◌≡◌, List, ℕ, length, min, refl, suc, take}
use Rattle.std.proofs.lemmas.List.{take_min}
use Rattle.pam_lsp.specs.Positions.{after_line_feed, line_at}

pub take_fewer : (n : ℕ) (xs : List ℕ) → take (min n (length xs)) xs ≡ take n xs
take_fewer n xs = take_min n xs

-- a later line is one of the rest
pub line_at-later : (n m : ℕ) (text : List ℕ) → n ≡ suc m → line_at n text ≡ line_at m (after_line_feed text)
line_at-later n m text is = rw is refl
