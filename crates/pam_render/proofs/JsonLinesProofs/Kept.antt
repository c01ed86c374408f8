-- The elements for the items of a list that pass a test, item by item.
use Rattle.std.proofs.Common.{◌≡◌, ◌∙◌, ℕ, Bool, true, false, List, [], ◌∷◌, ◌++◌, ap, append-nil, append_assoc, cond, sym}
use Rattle.std.specs.List.{filter}
use Rattle.pam_render.proofs.JsonLinesProofs.Arrays.{left_text}
use Rattle.serde_json.specs.Data.{Data}
use Rattle.serde_json.specs.Written.{comma_if, compact_text}

module _ {A : Type 0} (element : A → Data) (test : A → Bool) where
  abbrev pub kept_text : Bool → List A → List ℕ
  kept_text later left = left_text element later (filter test left)

  -- one more element is written
  pub kept-more : (front text : List ℕ) (later : Bool) (item : A) (left after : List A) → left ≡ item ∷ after → test item ≡ true
      → front ++ kept_text later left ≡ text → (front ++ (comma_if later ++ compact_text (element item))) ++ kept_text true after ≡ text
  kept-more front text later item left after is passes before =
      let kept : filter test left ≡ item ∷ filter test after =
      ap (filter test) is ∙ ap (λ (t : Bool). cond t (item ∷ filter test after) (filter test after)) passes in
      append_assoc front (comma_if later ++ compact_text (element item)) (kept_text true after)
      ∙ ap (λ l. front ++ l) (append_assoc (comma_if later) (compact_text (element item)) (kept_text true after))
      ∙ ap (λ (items : List A). front ++ left_text element later items) (sym kept) ∙ before

  -- an item has none
  pub kept-skipped : (front text : List ℕ) (later : Bool) (item : A) (left after : List A) → left ≡ item ∷ after → test item ≡ false
      → front ++ kept_text later left ≡ text → front ++ kept_text later after ≡ text
  kept-skipped front text later item left after is fails before =
      let skipped : filter test left ≡ filter test after =
      ap (filter test) is ∙ ap (λ (t : Bool). cond t (item ∷ filter test after) (filter test after)) fails in
      ap (λ (items : List A). front ++ left_text element later items) (sym skipped) ∙ before

  -- no item is left
  pub kept-all : (front text : List ℕ) (later : Bool) (left : List A) → left ≡ [] → front ++ kept_text later left ≡ text → front ≡ text
  kept-all front text later left is before =
      sym (append-nil front) ∙ ap (λ (items : List A). front ++ kept_text later items) (sym is) ∙ before
