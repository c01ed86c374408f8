-- For private contracts and proofs alone: the lists of a line of time.conf(5), each read up to its `;`, in one pass.
use Rattle.std.specs.Prelude.{◌≡◌, ◌==◌, ℕ, Bool, true, false, not, List, [], ◌∷◌, if◌then◌else◌, Ok}
use Rattle.pam_text.specs.Cut.{is_among}
use Rattle.pam_tables.specs.times.inner.Checks.{token_checked}
use Rattle.pam_tables.specs.times.inner.Items.{items_after, items_left}
use Rattle.pam_tables.specs.times.Logic.{Not, onto_items, signs_of}
use Rattle.pam_tables.specs.declared.times.logic.Joint.{Joint}
use Rattle.pam_tables.specs.declared.times.reading.Field.{Field}

-- the bytes before the first `;`, or all
abbrev pub before : List ℕ → List ℕ
before [] = []
before (b ∷ bs) = if b == 59 then [] else b ∷ before bs

-- the bytes from the first `;` on
abbrev pub onward : List ℕ → List ℕ
onward [] = []
onward (b ∷ bs) = if b == 59 then b ∷ bs else onward bs

-- the bytes that end a token: blanks, `!`, operators, and `;`
abbrev pub token_ends : List ℕ
token_ends = 32 ∷ 9 ∷ 13 ∷ 33 ∷ 38 ∷ 124 ∷ 59 ∷ []

abbrev pub is_inside : ℕ → Bool
is_inside b = not (is_among token_ends b)

-- a list from a `!` on and the text after it, or the same list, up to the same `;`
abbrev pub IsLeft : Bool → List ℕ → List ℕ → Type 0
IsLeft true text rest = (signs_of (before text) ≡ Not ∷ signs_of (before rest)) × (onward text ≡ onward rest)
IsLeft false text rest = (signs_of (before text) ≡ signs_of (before rest)) × (onward text ≡ onward rest)

-- a list begins with an item without a fault, and what is left of it comes after the item
pub record PassesItem (field : Field) (text left : List ℕ) : Type 0 where
  pub is_inverted : Bool
  pub token : List ℕ
  pub fine : token_checked field token ≡ Ok tt
  pub first : (joint : Joint) → items_after joint (before text) ≡ onto_items joint is_inverted token (items_left (before left))
  pub end : onward text ≡ onward left
