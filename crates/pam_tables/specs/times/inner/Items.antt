-- For private contracts and proofs alone: the items of a list of time.conf(5), item by item.
use Rattle.std.specs.Prelude.{◌≡◌, ◌<◌, ◌==◌, ℕ, Bool, true, false, List, [], ◌∷◌, length, Option, Some, None}
use Rattle.pam_tables.specs.times.Logic.{ItemOf, Not, ExpectItem, ExpectToken, ExpectJoint, items_from, onto_items, signs_of}
use Rattle.pam_tables.specs.declared.times.logic.Item.{Item}
use Rattle.pam_tables.specs.declared.times.logic.Joint.{Joint}
use Rattle.pam_tables.specs.declared.times.logic.Next.{Next}
use Rattle.pam_tables.specs.declared.times.logic.Next.TheVariants as next

abbrev pub Items : Type 0
Items = Option (List (ItemOf (List ℕ)))

-- the items of a text that is to begin with an item
abbrev pub items_after : Joint → List ℕ → Items
items_after joint text = items_from (ExpectItem joint) (signs_of text)

-- the items of a text that is to begin with the token of an inverted item
abbrev pub items_inverted : Joint → List ℕ → Items
items_inverted joint text = items_from (ExpectToken joint) (signs_of text)

-- the items of the text after an item
abbrev pub items_left : List ℕ → Items
items_left text = items_from ExpectJoint (signs_of text)

abbrev pub begins_not : List ℕ → Bool
begins_not [] = false
begins_not (b ∷ bs) = b == 33

-- a text from a `!` on and the text after it, or a text and its end that begins with no `!`
abbrev pub IsAfterNot : Bool → List ℕ → List ℕ → Type 0
IsAfterNot true text rest = signs_of text ≡ Not ∷ signs_of rest
IsAfterNot false text rest = (signs_of text ≡ signs_of rest) × (begins_not rest ≡ false)

abbrev pub HasNoToken : List ℕ → Type 0
HasNoToken text = (joint : Joint) → items_inverted joint text ≡ None

abbrev pub HasNoItem : List ℕ → Type 0
HasNoItem text = (joint : Joint) → items_after joint text ≡ None

abbrev pub IsFirstItem : List ℕ → Item → Type 0
IsFirstItem text item = (joint : Joint) → items_after joint text ≡ onto_items joint item.is_inverted item.token.now (items_left item.rest.now)

abbrev pub items_of_next : Next → Items
items_of_next next.End = Some []
items_of_next (next.Joint joint rest) = items_after joint rest.now
items_of_next next.Fault = None

abbrev pub IsShorter : Next → List ℕ → Type 0
IsShorter (next.Joint joint rest) text = length rest.now < length text
IsShorter _ text = Unit {0}
