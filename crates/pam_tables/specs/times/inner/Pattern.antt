-- For private contracts and proofs alone: what a text that matches has in place of the wildcard.
use Rattle.std.specs.Prelude.{◌≡◌, ℕ, ◌+◌, ◌++◌, List, take, drop, position, Option, Some, None}
use Rattle.pam_tables.specs.times.Pattern.{is_star}

abbrev pub MeansAt : Option ℕ → List ℕ → List ℕ → Type 0
MeansAt None name text = name ≡ text
MeansAt (Some i) name text = (filling : List ℕ) × (text ≡ take i name ++ (filling ++ drop (i + 1) name))

-- a text matches if it is the name, with some bytes in place of the first wildcard, if there is one
abbrev pub Means : List ℕ → List ℕ → Type 0
Means name text = MeansAt (position is_star name) name text
