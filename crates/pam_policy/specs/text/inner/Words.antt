-- For private contracts and proofs alone: the words of a line, part of which is read.
use Rattle.std.specs.Prelude.{◌≡◌, ℕ, Bool, true, false, List, [], ◌∷◌, Option, Some, None, Result, Ok, Err}
use Rattle.std.specs.Borrow.{Bor}
use Rattle.std.specs.Str.{bytes_eq}
use Rattle.pam_policy.specs.declared.text.error.PolicyFault.{PolicyFault}
use Rattle.pam_policy.specs.declared.text.error.PolicyFault.TheVariants.{MissingField}

abbrev pub is_empty : List (List ℕ) → Bool
is_empty [] = true
is_empty (word ∷ words) = false

-- the next word is taken; there has to be one
abbrev pub IsNext : Result (Bor (List ℕ)) PolicyFault → List (List ℕ) → List (List ℕ) → Type 0
IsNext (Ok word) old new = old ≡ word.now ∷ new
IsNext (Err fault) old new = (fault ≡ MissingField) × (old ≡ [])

abbrev pub first_of : List (List ℕ) → Option (List ℕ)
first_of [] = None
first_of (word ∷ words) = Some word

-- whether a word comes next
abbrev pub comes_next : List ℕ → List (List ℕ) → Bool
comes_next keyword [] = false
comes_next keyword (word ∷ words) = bytes_eq word keyword
