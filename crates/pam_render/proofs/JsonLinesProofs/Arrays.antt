-- The text of an array, element by element.
use Rattle.std.proofs.Common.{◌≡◌, ◌∙◌, ℕ, ◌+◌, ◌<◌, ◌≤◌, ◌||◌, Bool, true, false, List, [], ◌∷◌, ◌++◌, ap, append-nil, append_assoc, codes, drop}
use Rattle.std.proofs.Common.{drop_of_length-le, get_or, length, map, refl, sym}
use Rattle.std.proofs.lemmas.List.{at_drop_more}
use Rattle.serde_json.specs.Data.{Data, array}
use Rattle.serde_json.specs.Written.{comma_if, compact_text, items_text}
use Rattle.pam_render.specs.json_lines.Line.{items_of, separated}

-- the text of the elements for items, with the closing bracket
abbrev pub rest_text : {A : Type 0} → (A → Data) → Bool → List A → List ℕ
rest_text element later items = items_text later (items_of (map element items))

-- one more element is written, of the items that are left
pub item-more : {A : Type 0} (element : A → Data) (front text : List ℕ) (later : Bool) (item : A) (left after : List A) → left ≡ item ∷ after
    → front ++ rest_text element later left ≡ text
    → (front ++ (comma_if later ++ compact_text (element item))) ++ rest_text element true after ≡ text
item-more element front text later item left after is before =
    append_assoc front (comma_if later ++ compact_text (element item)) (rest_text element true after)
    ∙ ap (λ l. front ++ l) (append_assoc (comma_if later) (compact_text (element item)) (rest_text element true after))
    ∙ ap (λ items. front ++ rest_text element later items) (sym is) ∙ before

-- the text of the elements for items, each after a comma, but the first only if it comes later
abbrev pub left_text : {A : Type 0} → (A → Data) → Bool → List A → List ℕ
left_text element later items = separated later (map element items)

-- one more element is written, of the items from the i-th on
pub element-more : {A : Type 0} (element : A → Data) (front text : List ℕ) (later : Bool) (items : List A) (i : ℕ) (d item : A) → i < length items
    → item ≡ get_or items i d → front ++ left_text element later (drop i items) ≡ text
    → (front ++ (comma_if later ++ compact_text (element item))) ++ left_text element true (drop (i + 1) items) ≡ text
element-more element front text later items i d item h is before =
    let rest = left_text element true (drop (i + 1) items) in
    let at = get_or items i d in
    ap (λ x. (front ++ (comma_if later ++ compact_text (element x))) ++ rest) is
    ∙ append_assoc front (comma_if later ++ compact_text (element at)) rest
    ∙ ap (λ l. front ++ l) (append_assoc (comma_if later) (compact_text (element at)) rest)
    ∙ ap (λ l. front ++ l) (sym (at_drop_more (left_text element later) items i d h)) ∙ before

-- no item is left
pub items-all : {A : Type 0} (element : A → Data) (front text : List ℕ) (later : Bool) (left : List A) → left ≡ []
    → front ++ rest_text element later left ≡ text → front ++ 93 ∷ [] ≡ text
items-all element front text later left is before = ap (λ items. front ++ rest_text element later items) (sym is) ∙ before

-- no item is left after the i-th
pub elements-all : {A : Type 0} (element : A → Data) (front text : List ℕ) (later : Bool) (items : List A) (i : ℕ) → length items ≤ i
    → front ++ left_text element later (drop i items) ≡ text → front ≡ text
elements-all element front text later items i h before =
    sym (append-nil front) ∙ ap (λ (left : List _). front ++ left_text element later left) (sym (drop_of_length-le items h)) ∙ before

-- ---- arrays of such elements

items-joined : (later : Bool) (ds : List Data) → separated later ds ++ codes "]" ≡ items_text later (items_of ds)
items-joined later [] = refl
items-joined later (d ∷ ds) =
    append_assoc (comma_if later) (compact_text d ++ separated true ds) (codes "]")
    ∙ ap (λ l. comma_if later ++ l) (append_assoc (compact_text d) (separated true ds) (codes "]") ∙ ap (λ l. compact_text d ++ l) (items-joined true ds))

pub array-is : (ds : List Data) → codes "[" ++ (separated false ds ++ codes "]") ≡ compact_text (array (items_of ds))
array-is ds = ap (λ l. codes "[" ++ l) (items-joined false ds)

-- whether there is a value
abbrev pub has_some : List Data → Bool
has_some [] = false
has_some (d ∷ ds) = true

or-false : (b : Bool) → (b || false) ≡ b
or-false true = refl
or-false false = refl

or-true : (b : Bool) → (b || true) ≡ true
or-true true = refl
or-true false = refl

-- values after others
pub separated-append : (later more : Bool) (xs ys : List Data) → more ≡ (later || has_some xs)
    → separated later xs ++ separated more ys ≡ separated later (xs ++ ys)
separated-append later more [] ys e = ap (λ m. separated m ys) (e ∙ or-false later)
separated-append later more (x ∷ xs) ys e =
    append_assoc (comma_if later) (compact_text x ++ separated true xs) (separated more ys)
    ∙ ap (λ l. comma_if later ++ l)
    (append_assoc (compact_text x) (separated true xs) (separated more ys)
    ∙ ap (λ l. compact_text x ++ l) (separated-append true more xs ys (e ∙ or-true later)))
