-- A byte, written over and over.
use Rattle.std.proofs.Common.{◌≡◌, ◌∙◌, ℕ, ◌+◌, ◌-◌, ◌<◌, List, [], ◌∷◌, ◌++◌, ap, arith}
use Rattle.std.proofs.lemmas.List.{replicate-append-replicate}
use Rattle.std.specs.Prelude.{replicate}

-- one more
pub repeat-more : (count byte : ℕ) → replicate count byte ++ byte ∷ [] ≡ replicate (count + 1) byte
repeat-more count byte = replicate-append-replicate count 1 byte

-- those so far, one, and the later ones
pub repeat-at : (done count byte : ℕ) → done < count → (replicate done byte ++ byte ∷ []) ++ replicate (count - (done + 1)) byte ≡ replicate count byte
repeat-at done count byte h =
    let all : done + 1 + (count - (done + 1)) ≡ count = omega arith in
    ap (λ (l : List ℕ). l ++ replicate (count - (done + 1)) byte) (repeat-more done byte)
    ∙ replicate-append-replicate (done + 1) (count - (done + 1)) byte ∙ ap (λ (n : ℕ). replicate n byte) all
