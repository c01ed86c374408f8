-- The array of the elements for three lists, one after another, the first with its positions.
use Rattle.std.proofs.Common.{◌≡◌, ◌∙◌, ◌+◌, ◌<◌, ◌==◌, ◌||◌, ℕ, Bool, true, false, nat_lt, not, List, [], ◌∷◌, ◌++◌, ap, append_assoc, arith, codes, length}
use Rattle.std.proofs.Common.{map, refl, sym}
use Rattle.std.proofs.lemmas.Bool.{lt-ltb}
use Rattle.std.specs.List.{enumerate_from, flat_map}
use Rattle.pam_text.proofs.TextSteps.{unequal}
use Rattle.pam_render.proofs.JsonLinesProofs.Arrays.{array-is, has_some, separated-append}
use Rattle.pam_render.specs.json_lines.Line.{items_of, separated}
use Rattle.serde_json.specs.Data.{Data, array}
use Rattle.serde_json.specs.Written.{comma_if, compact_text}

-- there is an element for an item
some-are : {A : Type 0} (element : A → Data) (items : List A) → not (length items == 0) ≡ has_some (map element items)
some-are element [] = refl
some-are element (item ∷ items) = ap not (unequal (length (item ∷ items)) 0 (λ q. omega (arith, q)))

some-numbered : {A : Type 0} (element : ℕ × A → Data) (items : List A) → not (length items == 0) ≡ has_some (map element (enumerate_from 0 items))
some-numbered element [] = refl
some-numbered element (item ∷ items) = ap not (unequal (length (item ∷ items)) 0 (λ q. omega (arith, q)))

module _ {A : Type 0} (element : ℕ × A → Data) where
  -- an element with its position, with a comma before it unless it is the first
  abbrev pub numbered : ℕ × A → List ℕ
  numbered entry = comma_if (nat_lt 0 entry.0) ++ compact_text (element entry)

  later-are : (k : ℕ) (items : List A) → 0 < k → flat_map numbered (enumerate_from k items) ≡ separated true (map element (enumerate_from k items))
  later-are k [] h = refl
  later-are k (item ∷ items) h =
      let text = compact_text (element (k, item)) in
      let rest = flat_map numbered (enumerate_from (k + 1) items) in
      ap (λ (b : Bool). (comma_if b ++ text) ++ rest) (lt-ltb 0 k h) ∙ append_assoc (comma_if true) text rest
      ∙ ap (λ l. comma_if true ++ (text ++ l)) (later-are (k + 1) items (omega (arith, h)))

  numbered-are : (items : List A) → flat_map numbered (enumerate_from 0 items) ≡ separated false (map element (enumerate_from 0 items))
  numbered-are [] = refl
  numbered-are (item ∷ items) = ap (λ l. compact_text (element (0, item)) ++ l) (later-are 1 items (omega arith))

module _ {A B C : Type 0} (one : ℕ × A → Data) (two : B → Data) (three : C → Data) (firsts : List A) (seconds : List B) (thirds : List C) where
  abbrev pub firsts_text : List ℕ
  firsts_text = flat_map (numbered one) (enumerate_from 0 firsts)

  pub lists-are : (some more : Bool) → some ≡ not (length firsts == 0) → more ≡ (some || not (length seconds == 0))
      → codes "[" ++ (firsts_text ++ (separated some (map two seconds) ++ (separated more (map three thirds) ++ codes "]")))
      ≡ compact_text (array (items_of (map one (enumerate_from 0 firsts) ++ (map two seconds ++ map three thirds))))
  lists-are some more f t =
      let first = map one (enumerate_from 0 firsts) in
      let second = map two seconds in
      let third = map three thirds in
      let last : more ≡ (some || has_some second) = t ∙ ap (λ (b : Bool). some || b) (some-are two seconds) in
      let front : some ≡ has_some first = f ∙ some-numbered one firsts in
      ap (λ l. codes "[" ++ l)
      (ap (λ l. firsts_text ++ l) (sym (append_assoc (separated some second) (separated more third) (codes "]")))
      ∙ sym (append_assoc firsts_text (separated some second ++ separated more third) (codes "]"))
      ∙ ap (λ l. l ++ codes "]")
      (ap (λ l. firsts_text ++ l) (separated-append some more second third last)
      ∙ ap (λ l. l ++ separated some (second ++ third)) (numbered-are one firsts)
      ∙ separated-append false some first (second ++ third) front))
      ∙ array-is (first ++ (second ++ third))
