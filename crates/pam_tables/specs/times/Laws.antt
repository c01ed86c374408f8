-- time.conf(5): a logic list is an item, then any number of operators, each with an item after it.
use Rattle.std.specs.Prelude.{◌≡◌, ◌↔◌, ℕ, Bool, true, false, List, [], ◌∷◌, Ok}
use Rattle.pam_tables.specs.times.Logic.{ItemOf, SignText, Not, Join, Token, signs_of, items_of}
use Rattle.pam_tables.specs.declared.times.logic.Joint.TheVariants.{First}

-- the signs of an item, before those that follow
abbrev pub written_item : Bool → List ℕ → List SignText → List SignText
written_item true token more = Not ∷ Token token ∷ more
written_item false token more = Token token ∷ more

-- the signs of the items after the first, each with its operator
abbrev pub written_after : List (ItemOf (List ℕ)) → List SignText
written_after [] = []
written_after (item ∷ items) = Join item.0 ∷ written_item item.1 item.2 (written_after items)

-- the signs of a list of items, the first without an operator
abbrev pub IsWritten : List SignText → List (ItemOf (List ℕ)) → Type 0
IsWritten signs [] = ⊥
IsWritten signs (item ∷ items) = (item.0 ≡ First) × (signs ≡ written_item item.1 item.2 (written_after items))

-- a text has these items if and only if its signs are those of the items
abbrev pub ListsAreWrittenInOneWay : Type 0
ListsAreWrittenInOneWay = (text : List ℕ) (items : List (ItemOf (List ℕ))) → (items_of text ≡ Ok items) ↔ IsWritten (signs_of text) items
