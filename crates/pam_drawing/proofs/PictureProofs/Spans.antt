-- The modules of substacks, as they are gathered: one item after another.
use Rattle.std.proofs.Common.{◌≡◌, ◌∙◌, ℕ, ◌+◌, ◌<◌, ◌≤◌, suc, List, ◌++◌, ap, append-nil, append_assoc, arith, drop, drop_of_length-le, get_or, length, sym}
use Rattle.pam_conf.proofs.StackTree.{items_of-drop_module, items_of-drop_sub}
use Rattle.pam_conf.specs.ItemsOf.{items_of}
use Rattle.pam_conf.specs.Stack.{Items, SubList, module_count}
use Rattle.pam_conf.specs.declared.stack.Item.{Item}
use Rattle.pam_conf.specs.declared.stack.Item.TheVariants.{Module as ModuleItem, Sub as SubItem}
use Rattle.pam_conf.specs.declared.stack.Module.{Module}
use Rattle.pam_drawing.specs.picture.Columns.{span_after, spans_after}

module _ (items : List Item) (i passed : ℕ) (d : Item) (within : i < length items) where
  -- a module is in no substack of this list
  pub after-module : (spans : List (ℕ × ℕ)) (m : Module) → get_or items i d ≡ ModuleItem m
      → spans ++ spans_after (passed + 1) (items_of (drop (i + 1) items)) ≡ spans ++ spans_after passed (items_of (drop i items))
  after-module spans m is =
      let next : i + 1 ≡ suc i = omega arith in
      ap (λ (k : ℕ). spans ++ spans_after (passed + 1) (items_of (drop k items))) next
      ∙ ap (λ (x : Items). spans ++ spans_after passed x) (sym (items_of-drop_module items i d m within is))

  pub count-module : (m : Module) → get_or items i d ≡ ModuleItem m
      → module_count (items_of (drop i items)) ≡ module_count (items_of (drop (i + 1) items)) + 1
  count-module m is =
      let next : suc i ≡ i + 1 = omega arith in
      ap module_count (items_of-drop_module items i d m within is)
      ∙ ap (λ (k : ℕ). module_count (items_of (drop k items)) + 1) next

  -- a substack: those within it, and then its own modules
  pub after-sub : (spans : List (ℕ × ℕ)) (s : SubList) → get_or items i d ≡ SubItem s
      → ((spans ++ spans_after passed s.inner) ++ span_after passed (module_count s.inner))
      ++ spans_after (passed + module_count s.inner) (items_of (drop (i + 1) items)) ≡ spans ++ spans_after passed (items_of (drop i items))
  after-sub spans s is =
      let next : i + 1 ≡ suc i = omega arith in
      let inner = spans_after passed s.inner in
      let own = span_after passed (module_count s.inner) in
      let after = passed + module_count s.inner in
      append_assoc (spans ++ inner) own (spans_after after (items_of (drop (i + 1) items)))
      ∙ append_assoc spans inner (own ++ spans_after after (items_of (drop (i + 1) items)))
      ∙ ap (λ (k : ℕ). spans ++ (inner ++ (own ++ spans_after after (items_of (drop k items))))) next
      ∙ ap (λ (x : Items). spans ++ spans_after passed x) (sym (items_of-drop_sub items i d s within is))

  pub count-sub : (s : SubList) → get_or items i d ≡ SubItem s
      → module_count (items_of (drop i items)) ≡ module_count s.inner + module_count (items_of (drop (i + 1) items))
  count-sub s is =
      let next : suc i ≡ i + 1 = omega arith in
      ap module_count (items_of-drop_sub items i d s within is)
      ∙ ap (λ (k : ℕ). module_count s.inner + module_count (items_of (drop k items))) next

-- nothing is left after the last item
pub after-all : (items : List Item) (i passed : ℕ) (spans : List (ℕ × ℕ)) → length items ≤ i → spans ++ spans_after passed (items_of (drop i items)) ≡ spans
after-all items i passed spans h =
    ap (λ (xs : List Item). spans ++ spans_after passed (items_of xs)) (drop_of_length-le items h) ∙ append-nil spans

pub count-all : (items : List Item) (i : ℕ) → length items ≤ i → module_count (items_of (drop i items)) ≡ 0
count-all items i h = ap (λ (xs : List Item). module_count (items_of xs)) (drop_of_length-le items h)
