-- The flat list of a tree of items.
use Rattle.std.proofs.Common.{◌≡◌, ℕ, ◌+◌, ◌<◌, ◌≤◌, List, [], ◌∷◌, ◌++◌, zero, suc, refl, sym, ◌∙◌, ap, arith, drop, length, length-drop, get_or}
use Rattle.std.proofs.Common.{append_assoc, append-nil, drop_of_length-le}
use Rattle.std.proofs.Math.Seq.{drop-nil}
use Rattle.pam_conf.specs.declared.stack.Module.{Module}
use Rattle.pam_conf.specs.declared.stack.Item.{Item}
use Rattle.pam_conf.specs.declared.stack.Item.TheVariants.{Module as ModuleItem, Sub as SubItem}
use Rattle.pam_conf.specs.Stack.{Items, SubList, depth}
use Rattle.pam_conf.specs.ItemsOf.{items_of}
use Rattle.pam_conf.proofs.StackTree.{items_of-drop_module, items_of-drop_sub}
use Rattle.pam_dispatch.specs.declared.flat_item.FlatItem.{FlatItem}
use Rattle.pam_dispatch.specs.declared.flat_item.FlatItem.TheVariants.{Module as FlatModule, Substack}
use Rattle.pam_dispatch.specs.Tree.{count}
use Rattle.pam_dispatch.specs.inner.Flat.{flat_list}

count-items_of : (xs : List Item) → count (items_of xs) ≡ length xs
unfolding count
count-items_of [] = refl
count-items_of (ModuleItem m ∷ xs) = ap suc (count-items_of xs)
count-items_of (SubItem s ∷ xs) = ap suc (count-items_of xs)

-- a module comes after the flat list of the items before it
pub flat_list-module : (level i after : ℕ) (xs : List Item) (flat_items : List FlatItem) (d : Item) (m : Module) → i < length xs →
    get_or xs i d ≡ ModuleItem m →
    after + (i + 1) ≡ length xs →
    (flat_items ++ FlatModule level m.number m.control after ∷ []) ++ flat_list level (items_of (drop (i + 1) xs)) ≡ flat_items ++ flat_list level
    (items_of (drop i xs))
unfolding flat_list
flat_list-module level i after xs flat_items d m h e b =
    let next : i + 1 ≡ suc i = omega arith in
    let left : length (drop (suc i) xs) ≡ after = length-drop (suc i) xs ∙ omega (arith, b) in
    append_assoc flat_items (FlatModule level m.number m.control after ∷ []) (flat_list level (items_of (drop (i + 1) xs)))
    ∙ ap (λ (k : ℕ). flat_items ++ FlatModule level m.number m.control after ∷ flat_list level (items_of (drop k xs))) next
    ∙ ap (λ (k : ℕ). flat_items ++ FlatModule level m.number m.control k ∷ flat_list level (items_of (drop (suc i) xs)))
    (sym (count-items_of (drop (suc i) xs) ∙ left))
    ∙ ap (λ (x : Items). flat_items ++ flat_list level x) (sym (items_of-drop_module xs i d m h e))

-- a substack and its flat list come after that of the items before it
pub flat_list-sub : (level i : ℕ) (xs : List Item) (flat_items : List FlatItem) (d : Item) (s : SubList) → i < length xs → get_or xs i d ≡ SubItem s →
    ((flat_items ++ Substack level ∷ []) ++ flat_list (level + 1) s.inner) ++ flat_list level (items_of (drop (i + 1) xs)) ≡ flat_items ++ flat_list level
    (items_of (drop i xs))
unfolding flat_list
flat_list-sub level i xs flat_items d s h e =
    let next : i + 1 ≡ suc i = omega arith in
    let after = flat_list level (items_of (drop (i + 1) xs)) in
    append_assoc (flat_items ++ Substack level ∷ []) (flat_list (level + 1) s.inner) after
    ∙ append_assoc flat_items (Substack level ∷ []) (flat_list (level + 1) s.inner ++ after)
    ∙ ap (λ (k : ℕ). flat_items ++ Substack level ∷ (flat_list (level + 1) s.inner ++ flat_list level (items_of (drop k xs)))) next
    ∙ ap (λ (x : Items). flat_items ++ flat_list level x) (sym (items_of-drop_sub xs i d s h e))

-- nothing is left after the last item
pub flat_list-end : (level i : ℕ) (xs : List Item) (flat_items : List FlatItem) → length xs ≤ i →
    flat_items ++ flat_list level (items_of (drop i xs)) ≡ flat_items
unfolding flat_list
flat_list-end level i xs flat_items h =
    ap (λ (ys : List Item). flat_items ++ flat_list level (items_of ys)) (drop_of_length-le xs h) ∙ append-nil flat_items

depth-drop_suc : (xs : List Item) (i : ℕ) → depth (items_of (drop (suc i) xs)) ≤ depth (items_of (drop i xs))
depth-drop_suc [] i = rw (drop-nil i) (omega arith)
depth-drop_suc (ModuleItem m ∷ xs) zero = omega arith
depth-drop_suc (SubItem s ∷ xs) zero = omega arith
depth-drop_suc (x ∷ xs) (suc i) = depth-drop_suc xs i

-- after an item no more lists are open
pub shallow-after : (level i : ℕ) (xs : List Item) → level + depth (items_of (drop i xs)) ≤ 16 → level + depth (items_of (drop (i + 1) xs)) ≤ 16
shallow-after level i xs h =
    let next : i + 1 ≡ suc i = omega arith in
    rw next (omega (arith, h, depth-drop_suc xs i))
