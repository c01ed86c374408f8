-- A logic list and its signs.
use Rattle.std.proofs.Common.{◌≡◌, ◌∙◌, ℕ, Bool, true, false, List, [], ◌∷◌, Option, Some, None, Ok, refl, sym, ap, subst}
use Rattle.pam_tables.specs.times.Laws.{written_item, written_after, IsWritten}
use Rattle.pam_tables.specs.times.Logic.{Expected, ExpectItem, ExpectToken, ExpectJoint, ItemOf, SignText, Not, Join, Token}
use Rattle.pam_tables.specs.times.Logic.{signs_of, onto_items, items_from, items_or_fault, items_of}
use Rattle.pam_tables.specs.declared.times.logic.Joint.{Joint}
use Rattle.pam_tables.specs.declared.times.logic.Joint.TheVariants.{First}

abbrev Items : Type 0
Items = List (ItemOf (List ℕ))

-- the signs of items that may come next
abbrev From : Expected → List SignText → Items → Type 0
From ExpectJoint signs items = signs ≡ written_after items
From (ExpectItem joint) signs [] = ⊥
From (ExpectItem joint) signs (item ∷ items) = (item.0 ≡ joint) × (signs ≡ written_item item.1 item.2 (written_after items))
From (ExpectToken joint) signs [] = ⊥
From (ExpectToken joint) signs (item ∷ items) = (item.0 ≡ joint) × (item.1 ≡ true) × (signs ≡ Token item.2 ∷ written_after items)

abbrev OrNone : Expected → List SignText → Option Items → Type 0
OrNone expected signs None = Unit {0}
OrNone expected signs (Some items) = From expected signs items

plain : (joint : Joint) (t : List ℕ) (signs : List SignText) (o : Option Items) → OrNone ExpectJoint signs o →
    OrNone (ExpectItem joint) (Token t ∷ signs) (onto_items joint false t o)
plain joint t signs None h = tt
plain joint t signs (Some items) h = (refl, ap (λ (ss : List SignText). Token t ∷ ss) h)

turned : (joint : Joint) (t : List ℕ) (signs : List SignText) (o : Option Items) → OrNone ExpectJoint signs o →
    OrNone (ExpectToken joint) (Token t ∷ signs) (onto_items joint true t o)
turned joint t signs None h = tt
turned joint t signs (Some items) h = (refl, refl, ap (λ (ss : List SignText). Token t ∷ ss) h)

after_not_items : (joint : Joint) (signs : List SignText) (items : Items) → From (ExpectToken joint) signs items →
    From (ExpectItem joint) (Not ∷ signs) items
after_not_items joint signs [] h = h
after_not_items joint signs (item ∷ items) h =
    (h.0, ap (λ (ss : List SignText). Not ∷ ss) h.2 ∙ ap (λ (b : Bool). written_item b item.2 (written_after items)) (sym h.1))

after_not : (joint : Joint) (signs : List SignText) (o : Option Items) → OrNone (ExpectToken joint) signs o → OrNone (ExpectItem joint) (Not ∷ signs) o
after_not joint signs None h = tt
after_not joint signs (Some items) h = after_not_items joint signs items h

after_joint_items : (joint : Joint) (signs : List SignText) (items : Items) → From (ExpectItem joint) signs items →
    From ExpectJoint (Join joint ∷ signs) items
after_joint_items joint signs [] h = absurd h
after_joint_items joint signs (item ∷ items) h =
    ap (λ (ss : List SignText). Join joint ∷ ss) h.1 ∙ ap (λ (j : Joint). Join j ∷ written_item item.1 item.2 (written_after items)) (sym h.0)

after_joint : (joint : Joint) (signs : List SignText) (o : Option Items) → OrNone (ExpectItem joint) signs o → OrNone ExpectJoint (Join joint ∷ signs) o
after_joint joint signs None h = tt
after_joint joint signs (Some items) h = after_joint_items joint signs items h

-- signs that are read as items are those of the items
read_from : (expected : Expected) (signs : List SignText) → OrNone expected signs (items_from expected signs)
unfolding items_from
read_from ExpectJoint [] = refl
read_from ExpectJoint (Not ∷ signs) = tt
read_from ExpectJoint (Join joint ∷ signs) = after_joint joint signs _ (read_from (ExpectItem joint) signs)
read_from ExpectJoint (Token t ∷ signs) = tt
read_from (ExpectItem joint) [] = tt
read_from (ExpectItem joint) (Not ∷ signs) = after_not joint signs _ (read_from (ExpectToken joint) signs)
read_from (ExpectItem joint) (Join other ∷ signs) = tt
read_from (ExpectItem joint) (Token t ∷ signs) = plain joint t signs _ (read_from ExpectJoint signs)
read_from (ExpectToken joint) [] = tt
read_from (ExpectToken joint) (Not ∷ signs) = tt
read_from (ExpectToken joint) (Join other ∷ signs) = tt
read_from (ExpectToken joint) (Token t ∷ signs) = turned joint t signs _ (read_from ExpectJoint signs)

-- the signs of items are read as those items
read_item : (joint : Joint) (b : Bool) (t : List ℕ) (items : Items) → items_from ExpectJoint (written_after items) ≡ Some items →
    items_from (ExpectItem joint) (written_item b t (written_after items)) ≡ Some ((joint, b, t) ∷ items)
unfolding items_from
read_item joint true t items h = ap (onto_items joint true t) h
read_item joint false t items h = ap (onto_items joint false t) h

read_after : (items : Items) → items_from ExpectJoint (written_after items) ≡ Some items
unfolding items_from
read_after [] = refl
read_after (item ∷ items) = read_item item.0 item.1 item.2 items (read_after items)

from_first : (signs : List SignText) (items : Items) → From (ExpectItem First) signs items → IsWritten signs items
from_first signs [] h = h
from_first signs (item ∷ items) h = h

written_of : (signs : List SignText) (o : Option Items) (items : Items) → OrNone (ExpectItem First) signs o → items_or_fault o ≡ Ok items →
    IsWritten signs items
written_of signs None items h e = absurd (cc)
written_of signs (Some list) items h e =
    let same : list ≡ items = cc in
    let P : Items → Type 0 = λ xs. From (ExpectItem First) signs xs in
    from_first signs items (subst P same h)

pub is_written : (text : List ℕ) (items : Items) → items_of text ≡ Ok items → IsWritten (signs_of text) items
unfolding items_of
is_written text items e = written_of (signs_of text) _ items (read_from (ExpectItem First) (signs_of text)) e

read_first : (signs : List SignText) (items : Items) → IsWritten signs items → items_from (ExpectItem First) signs ≡ Some items
read_first signs [] h = absurd h
read_first signs (item ∷ items) h =
    ap (λ (ss : List SignText). items_from (ExpectItem First) ss) h.1 ∙ read_item First item.1 item.2 items (read_after items)
    ∙ ap (λ (j : Joint). Some ((j, item.1, item.2) ∷ items)) (sym h.0)

pub is_read : (text : List ℕ) (items : Items) → IsWritten (signs_of text) items → items_of text ≡ Ok items
unfolding items_of
is_read text items h = ap items_or_fault (read_first (signs_of text) items h)
