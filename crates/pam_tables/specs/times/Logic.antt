-- time.conf(5): a logic list has items joined by `&` and `|`; `!` inverts an item.
use Rattle.std.specs.Prelude.{ℕ, ◌==◌, ◌&&◌, ◌||◌, Bool, true, false, not, List, [], ◌∷◌, map, if◌then◌else◌, Option, Some, None, Result, Ok, Err}
use Rattle.std.specs.List.{list_all}
use Rattle.pam_codes.specs.Tokens.{is_blank}
use Rattle.pam_tables.specs.declared.times.error.TimeFault.{TimeFault}
use Rattle.pam_tables.specs.declared.times.error.TimeFault.TheVariants.{BadLogic}
use Rattle.pam_tables.specs.times.Entry.{differ}
use Rattle.pam_tables.specs.declared.times.logic.Joint.{Joint}
use Rattle.pam_tables.specs.declared.times.logic.Joint.TheVariants.{First, And, Or}

-- ---- the value of a list

-- the operator before an item, whether it is inverted, and the meaning of its token
abbrev pub ItemOf : Type 0 → Type 0
ItemOf A = Joint × Bool × A

-- an item that is the first, or comes after `|`
abbrev pub may_begin : Joint → Bool
may_begin And = false
may_begin _ = true

-- an item that keeps a true list true: any but a false one after `&`
abbrev pub keeps : Joint × Bool → Bool
keeps item = may_begin item.0 || item.1

-- a list with these values of items is true if some true item is the first or comes after `|`,
-- and each later item that comes after `&` is true
abbrev pub is_true_of : List (Joint × Bool) → Bool
is_true_of [] = false
is_true_of (item ∷ items) = ((may_begin item.0 && item.1) && list_all keeps items) || is_true_of items

-- the value of an item: the value of its token, inverted by `!`
abbrev pub item_value : {A : Type 0} → (A → Bool) → ItemOf A → Joint × Bool
item_value f item = (item.0, differ item.1 (f item.2))

-- THE VALUE of a list, from the values of its tokens
abbrev pub is_true : {A : Type 0} → (A → Bool) → List (ItemOf A) → Bool
is_true f items = is_true_of (map (item_value f) items)

-- ---- the text of a list

-- `!`, an operator, or a token
pub data SignText : Type 0 where
  Not : SignText
  Join : Joint → SignText
  Token : List ℕ → SignText

abbrev pub is_token_byte : ℕ → Bool
is_token_byte b = not (is_blank b || b == 33 || b == 38 || b == 124)

abbrev pub begins_token : List ℕ → Bool
begins_token [] = false
begins_token (b ∷ bs) = is_token_byte b

abbrev pub onto_token : ℕ → List SignText → List SignText
onto_token b (Token t ∷ signs) = Token (b ∷ t) ∷ signs
onto_token b signs = Token (b ∷ []) ∷ signs

-- the signs of a text: each `!` and operator, and each longest run of bytes other than these and blanks
unfoldable pub signs_of : List ℕ → List SignText
signs_of [] = []
signs_of (b ∷ bs) =
    if is_blank b then signs_of bs
    else if b == 33 then Not ∷ signs_of bs
    else if b == 38 then Join And ∷ signs_of bs
    else if b == 124 then Join Or ∷ signs_of bs
    else if begins_token bs then onto_token b (signs_of bs)
    else Token (b ∷ []) ∷ signs_of bs

abbrev pub onto_items : Joint → Bool → List ℕ → Option (List (ItemOf (List ℕ))) → Option (List (ItemOf (List ℕ)))
onto_items joint is_inverted token (Some items) = Some ((joint, is_inverted, token) ∷ items)
onto_items joint is_inverted token None = None

-- what may come next in a list: an item after this operator, the token of an inverted item, or an operator or the end
pub data Expected : Type 0 where
  ExpectItem : Joint → Expected
  ExpectToken : Joint → Expected
  ExpectJoint : Expected

-- the items that may come next, if the signs are a list: an item is a token, with at most one `!` before it,
-- and there is an operator between two items
unfoldable pub items_from : Expected → List SignText → Option (List (ItemOf (List ℕ)))
items_from (ExpectItem joint) (Not ∷ signs) = items_from (ExpectToken joint) signs
items_from (ExpectItem joint) (Token t ∷ signs) = onto_items joint false t (items_from ExpectJoint signs)
items_from (ExpectToken joint) (Token t ∷ signs) = onto_items joint true t (items_from ExpectJoint signs)
items_from ExpectJoint (Join joint ∷ signs) = items_from (ExpectItem joint) signs
items_from ExpectJoint [] = Some []
items_from _ _ = None

abbrev pub items_or_fault : Option (List (ItemOf (List ℕ))) → Result (List (ItemOf (List ℕ))) TimeFault
items_or_fault (Some items) = Ok items
items_or_fault None = Err BadLogic

-- the items of a text
unfoldable pub items_of : List ℕ → Result (List (ItemOf (List ℕ))) TimeFault
items_of text = items_or_fault (items_from (ExpectItem First) (signs_of text))
