-- Members of an object, one after another.
use Rattle.std.proofs.Common.{◌≡◌, ℕ, List, ◌∷◌, ap₂}
use Rattle.serde_json.specs.Data.{Data}

abbrev pub Members : Type 0
Members = List (List ℕ × Data)

abbrev pub named : List ℕ → Data → List ℕ × Data
named name value = (name, value)

pub then : (one other : List ℕ × Data) (ones others : Members) → one ≡ other → ones ≡ others → one ∷ ones ≡ other ∷ others
then one other ones others e f = ap₂ {A = List ℕ × Data} {B = Members} {C = Members} (λ m ms. m ∷ ms) e f
