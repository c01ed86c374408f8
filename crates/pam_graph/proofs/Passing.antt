-- The codes that jump past the end of their lists, one item after another.
use Rattle.std.proofs.Common.{◌≡◌, ℕ, ◌+◌, ◌<◌, ◌≤◌, ◌&&◌, Bool, true, false, List, [], ◌∷◌, ◌++◌, suc, refl, sym, ◌∙◌, ap, arith, drop, length}
use Rattle.std.proofs.Common.{append_assoc, append-nil, drop_of_length-le, get_or, length-drop}
use Rattle.std.proofs.lemmas.List.{length-append}
use Rattle.std.proofs.lemmas.Bool.{false≢true}
use Rattle.std.specs.List.{list_any}
use Rattle.std.specs.Prelude.{IsTrue}
use Rattle.pam_codes.specs.Set.{IsCodeSet, codes_where, is_in}
use Rattle.pam_conf.specs.declared.stack.Module.{Module}
use Rattle.pam_conf.specs.declared.stack.Item.{Item}
use Rattle.pam_conf.specs.declared.stack.Item.TheVariants.{Module as ModuleItem, Sub as SubItem}
use Rattle.pam_conf.specs.Stack.{Items, End, ModuleText, SubList, ThenModule, ThenSub, module_count}
use Rattle.pam_conf.specs.ItemsOf.{items_of, module_text}
use Rattle.pam_conf.proofs.StackTree.{items_of-drop_module, items_of-drop_sub}
use Rattle.pam_dispatch.specs.State.{action_of}
use Rattle.pam_dispatch.specs.Tree.{count}
use Rattle.pam_graph.specs.PastEnds.{is_past_end, past_ends}
use Rattle.pam_paths.specs.Listing.{Allowance}
use Rattle.pam_paths.proofs.Sharing.{meets-none, meets-some}

count-items_of : (items : List Item) → count (items_of items) ≡ length items
unfolding count
count-items_of [] = refl
count-items_of (ModuleItem m ∷ items) = ap suc (count-items_of items)
count-items_of (SubItem s ∷ items) = ap suc (count-items_of items)

module _ (allows : Allowance) where
  -- the codes of a module, before this number of items
  abbrev pub codes_at : ModuleText → ℕ → List ℕ
  codes_at m after = codes_where (λ code. is_in code (codes_where (allows m.number)) && is_past_end after (action_of m.control code))

  -- a module comes after the items before it
  pub past-module : (i after : ℕ) (items : List Item) (found : List (List ℕ)) (d : Item) (m : Module) → i < length items →
      get_or items i d ≡ ModuleItem m → after + (i + 1) ≡ length items →
      (found ++ codes_at (module_text m) after ∷ []) ++ past_ends allows (items_of (drop (i + 1) items))
      ≡ found ++ past_ends allows (items_of (drop i items))
  unfolding past_ends
  past-module i after items found d m h e b =
      let next : i + 1 ≡ suc i = omega arith in
      let rest = drop (suc i) items in
      let left : length rest ≡ after = length-drop (suc i) items ∙ omega (arith, b) in
      append_assoc found (codes_at (module_text m) after ∷ []) (past_ends allows (items_of (drop (i + 1) items)))
      ∙ ap (λ (k : ℕ). found ++ codes_at (module_text m) after ∷ past_ends allows (items_of (drop k items))) next
      ∙ ap (λ (k : ℕ). found ++ codes_at (module_text m) k ∷ past_ends allows (items_of rest)) (sym (count-items_of rest ∙ left))
      ∙ ap (λ (x : Items). found ++ past_ends allows x) (sym (items_of-drop_module items i d m h e))

  -- so do the modules of a substack
  pub past-sub : (i : ℕ) (items : List Item) (found : List (List ℕ)) (d : Item) (s : SubList) → i < length items → get_or items i d ≡ SubItem s →
      (found ++ past_ends allows s.inner) ++ past_ends allows (items_of (drop (i + 1) items))
      ≡ found ++ past_ends allows (items_of (drop i items))
  unfolding past_ends
  past-sub i items found d s h e =
      let next : i + 1 ≡ suc i = omega arith in
      append_assoc found (past_ends allows s.inner) (past_ends allows (items_of (drop (i + 1) items)))
      ∙ ap (λ (k : ℕ). found ++ (past_ends allows s.inner ++ past_ends allows (items_of (drop k items)))) next
      ∙ ap (λ (x : Items). found ++ past_ends allows x) (sym (items_of-drop_sub items i d s h e))

  -- nothing is left after the last item
  pub past-end : (i : ℕ) (items : List Item) (found : List (List ℕ)) → length items ≤ i → found ++ past_ends allows (items_of (drop i items)) ≡ found
  unfolding past_ends
  past-end i items found h =
      ap (λ (xs : List Item). found ++ past_ends allows (items_of xs)) (drop_of_length-le items h) ∙ append-nil found

  -- one set for each module
  pub length-past_ends : (items : Items) → length (past_ends allows items) ≡ module_count items
  unfolding past_ends
  length-past_ends End = refl
  length-past_ends (ThenModule m rest) = omega (arith, length-past_ends rest)
  length-past_ends (ThenSub sub inner rest) =
      length-append (past_ends allows inner) (past_ends allows rest) ∙ omega (arith, length-past_ends inner, length-past_ends rest)

-- COMMON CODES

-- no code is one of none
pub any-of-none : (class : List ℕ) → list_any (λ code. is_in code []) class ≡ false
any-of-none [] = refl
any-of-none (code ∷ class) = any-of-none class

-- a test whether sets have a code in common
pub same-meets : (codes class : List ℕ) (r : Bool) → IsCodeSet class →
    (IsTrue r → (c : ℕ) × (c < 31) × IsTrue (is_in c codes) × IsTrue (is_in c class)) →
    (((c : ℕ) × (c < 31) × IsTrue (is_in c codes) × IsTrue (is_in c class)) → IsTrue r) → r ≡ list_any (λ code. is_in code codes) class
same-meets codes class true set some from = sym (meets-some codes class set (some refl))
same-meets codes class false set some from = sym (meets-none codes class set (λ w. false≢true (from w)))
