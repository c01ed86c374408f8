-- For the model of `Texts` alone: texts that lie in one piece of memory, one after the other.
use Rattle.std.specs.Prelude.{ℕ, List, [], ◌∷◌, take, drop}

-- the texts of these lengths, one after the other
abbrev pub cut_lengths : List ℕ → List ℕ → List (List ℕ)
cut_lengths [] bytes = []
cut_lengths (len ∷ lens) bytes = take len bytes ∷ cut_lengths lens (drop len bytes)
