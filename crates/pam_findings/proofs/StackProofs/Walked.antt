-- The modules of a list of items that pass a test, one item after another.
use Rattle.std.proofs.Common.{◌≡◌, ℕ, ◌+◌, ◌<◌, ◌≤◌, Bool, List, [], ◌∷◌, ◌++◌, suc, refl, sym, ◌∙◌, ap, arith, cond, drop, length}
use Rattle.std.proofs.Common.{append_assoc, append-nil, drop_of_length-le, get_or, length-drop}
use Rattle.pam_conf.specs.declared.stack.Module.{Module}
use Rattle.pam_conf.specs.declared.stack.Item.{Item}
use Rattle.pam_conf.specs.declared.stack.Item.TheVariants.{Module as ModuleItem, Sub as SubItem}
use Rattle.pam_conf.specs.Stack.{Items, ModuleText, SubList}
use Rattle.pam_conf.specs.ItemsOf.{items_of, module_text}
use Rattle.pam_conf.proofs.StackTree.{items_of-drop_module, items_of-drop_sub}
use Rattle.pam_dispatch.specs.Tree.{count}
use Rattle.pam_findings.specs.stack.inner.PastEnd.{numbers_where}

count-items_of : (items : List Item) → count (items_of items) ≡ length items
unfolding count
count-items_of [] = refl
count-items_of (ModuleItem m ∷ items) = ap suc (count-items_of items)
count-items_of (SubItem s ∷ items) = ap suc (count-items_of items)

module _ (test : ModuleText → ℕ → Bool) where
  abbrev numbers_at : ModuleText → ℕ → List ℕ
  numbers_at m after = cond (test m after) (m.number ∷ []) []

  -- a module comes after the items before it
  pub where-module : (i after : ℕ) (items : List Item) (numbers : List ℕ) (d : Item) (m : Module) → i < length items →
      get_or items i d ≡ ModuleItem m → after + (i + 1) ≡ length items →
      (numbers ++ numbers_at (module_text m) after) ++ numbers_where test (items_of (drop (i + 1) items))
      ≡ numbers ++ numbers_where test (items_of (drop i items))
  unfolding numbers_where
  where-module i after items numbers d m h e b =
      let next : i + 1 ≡ suc i = omega arith in
      let rest = drop (suc i) items in
      let left : length rest ≡ after = length-drop (suc i) items ∙ omega (arith, b) in
      append_assoc numbers (numbers_at (module_text m) after) (numbers_where test (items_of (drop (i + 1) items)))
      ∙ ap (λ (k : ℕ). numbers ++ (numbers_at (module_text m) after ++ numbers_where test (items_of (drop k items)))) next
      ∙ ap (λ (k : ℕ). numbers ++ (numbers_at (module_text m) k ++ numbers_where test (items_of rest))) (sym (count-items_of rest ∙ left))
      ∙ ap (λ (x : Items). numbers ++ numbers_where test x) (sym (items_of-drop_module items i d m h e))

  -- so do the modules of a substack
  pub where-sub : (i : ℕ) (items : List Item) (numbers : List ℕ) (d : Item) (s : SubList) → i < length items → get_or items i d ≡ SubItem s →
      (numbers ++ numbers_where test s.inner) ++ numbers_where test (items_of (drop (i + 1) items))
      ≡ numbers ++ numbers_where test (items_of (drop i items))
  unfolding numbers_where
  where-sub i items numbers d s h e =
      let next : i + 1 ≡ suc i = omega arith in
      append_assoc numbers (numbers_where test s.inner) (numbers_where test (items_of (drop (i + 1) items)))
      ∙ ap (λ (k : ℕ). numbers ++ (numbers_where test s.inner ++ numbers_where test (items_of (drop k items)))) next
      ∙ ap (λ (x : Items). numbers ++ numbers_where test x) (sym (items_of-drop_sub items i d s h e))

  -- nothing is left after the last item
  pub where-end : (i : ℕ) (items : List Item) (numbers : List ℕ) → length items ≤ i → numbers ++ numbers_where test (items_of (drop i items)) ≡ numbers
  unfolding numbers_where
  where-end i items numbers h =
      ap (λ (xs : List Item). numbers ++ numbers_where test (items_of xs)) (drop_of_length-le items h) ∙ append-nil numbers
