-- The lines of a list, item by item.
use Rattle.std.proofs.Common.{◌≡◌, ℕ, ◌+◌, ◌<◌, ◌≤◌, List, [], ◌++◌, suc, length}
use Rattle.std.proofs.Common.{drop, get_or, sym, ap, ◌∙◌, arith, append_assoc, append-nil, drop_of_length-le, max, Option, refl}
use Rattle.pam_conf.proofs.StackTree.{items_of-drop_module, items_of-drop_sub}
use Rattle.pam_conf.specs.Files.{Folder}
use Rattle.pam_conf.specs.ItemsOf.{items_of, module_text, sub_list}
use Rattle.pam_conf.specs.Stack.{Items, SubList, depth}
use Rattle.pam_conf.specs.declared.stack.Item.{Item}
use Rattle.pam_conf.specs.declared.stack.Item.TheVariants.{Module as ModuleItem, Sub as SubItem}
use Rattle.pam_conf.specs.declared.stack.Module.{Module}
use Rattle.pam_conf.specs.declared.stack.Sub.TheInside.{Inside}
use Rattle.pam_report.specs.Reply.{StackValue}
use Rattle.pam_text.proofs.Writing.{all-is, all-then, front-is, front-longer, front-then}
use Rattle.pam_text.specs.Out.{TookAll, TookFront}
use Rattle.pam_text.specs.declared.out.Out.{Out}
use Rattle.pam_render.specs.parts.Items.{Line, Module as ModuleLine, Sub as SubLine, items_lines}

-- a part of a text is written, and the rest is not
pub record Partly {W : Type 0} (contents : W → Option (List ℕ)) (old new : Out W) (whole rest : List ℕ) : Type 0 where
  pub front : List ℕ
  pub parts : front ++ rest ≡ whole
  pub took : TookAll contents old new front

module _ {W : Type 0} {contents : W → Option (List ℕ)} where
  -- one more piece
  partly-more : {old mid new : Out W} {whole rest : List ℕ} (piece after : List ℕ) → Partly contents old mid whole rest → rest ≡ piece ++ after
      → TookAll contents mid new piece →
      Partly contents old new whole after
  partly-more piece after p e t = record {
    front = p.front ++ piece;
    parts = append_assoc p.front piece after ∙ ap (λ (l : List ℕ). p.front ++ l) (sym e) ∙ p.parts;
    took = all-then p.took t;
  }

  -- a piece that failed
  partly-failed : {old mid new : Out W} {whole rest : List ℕ} (piece after : List ℕ) → Partly contents old mid whole rest → rest ≡ piece ++ after
      → TookFront contents mid new piece →
      TookFront contents old new whole
  partly-failed piece after p e t =
      front-is (front-longer after (front-then p.took t)) (append_assoc p.front piece after ∙ ap (λ (l : List ℕ). p.front ++ l) (sym e) ∙ p.parts)

-- if this is the text of a line
module _ (line : Line → List ℕ) (files : Folder) where
  abbrev lines : ℕ → Items → List ℕ
  lines level items = items_lines line files level items

  -- the lines of the items before the i-th are written
  abbrev pub ItemsBefore : {W : Type 0} → (W → Option (List ℕ)) → Out W → Out W → ℕ → List Item → ℕ → Type 0
  ItemsBefore contents old new level xs i = Partly contents old new (lines level (items_of xs)) (lines level (items_of (drop i xs)))

  at-module : (level i : ℕ) (xs : List Item) (d : Item) (m : Module) → i < length xs → get_or xs i d ≡ ModuleItem m →
      lines level (items_of (drop i xs)) ≡ line (ModuleLine files level (module_text m)) ++ lines level (items_of (drop (i + 1) xs))
  unfolding items_lines
  at-module level i xs d m h e =
      let next : suc i ≡ i + 1 = omega arith in
      ap (λ (x : Items). lines level x) (items_of-drop_module xs i d m h e)
      ∙ ap (λ (k : ℕ). line (ModuleLine files level (module_text m)) ++ lines level (items_of (drop k xs))) next

  at-sub : (level i : ℕ) (xs : List Item) (d : Item) (s : SubList) → i < length xs → get_or xs i d ≡ SubItem s →
      lines level (items_of (drop i xs)) ≡ (line (SubLine files level s.text) ++ lines (level + 1) s.inner)
      ++ lines level (items_of (drop (i + 1) xs))
  unfolding items_lines
  at-sub level i xs d s h e =
      let next : suc i ≡ i + 1 = omega arith in
      ap (λ (x : Items). lines level x) (items_of-drop_sub xs i d s h e)
      ∙ ap (λ (k : ℕ). (line (SubLine files level s.text) ++ lines (level + 1) s.inner) ++ lines level (items_of (drop k xs))) next

  -- no text is left after the last item
  at-end : (level i : ℕ) (xs : List Item) → length xs ≤ i → lines level (items_of (drop i xs)) ≡ []
  unfolding items_lines
  at-end level i xs h = ap (λ (ys : List Item). lines level (items_of ys)) (drop_of_length-le xs h)

  module _ {W : Type 0} {contents : W → Option (List ℕ)} where
    pub items-all : {old new : Out W} (level i : ℕ) (xs : List Item) → length xs ≤ i → ItemsBefore contents old new level xs i →
        TookAll contents old new (lines level (items_of xs))
    items-all level i xs h p =
        all-is p.took (sym (append-nil p.front) ∙ ap (λ (l : List ℕ). p.front ++ l) (sym (at-end level i xs h)) ∙ p.parts)

    pub module-written : {old mid new : Out W} (level i : ℕ) (xs : List Item) (d : Item) (m : Module) → i < length xs → d ≡ get_or xs i d
        → d ≡ ModuleItem m →
        ItemsBefore contents old mid level xs i → TookAll contents mid new (line (ModuleLine files level (module_text m)))
        → ItemsBefore contents old new level xs (i + 1)
    module-written level i xs d m h is e p t =
        partly-more (line (ModuleLine files level (module_text m))) (lines level (items_of (drop (i + 1) xs))) p
        (at-module level i xs d m h (sym is ∙ e)) t

    pub module-failed : {old mid new : Out W} (level i : ℕ) (xs : List Item) (d : Item) (m : Module) → i < length xs → d ≡ get_or xs i d
        → d ≡ ModuleItem m →
        ItemsBefore contents old mid level xs i → TookFront contents mid new (line (ModuleLine files level (module_text m)))
        → TookFront contents old new (lines level (items_of xs))
    module-failed level i xs d m h is e p t =
        partly-failed (line (ModuleLine files level (module_text m))) (lines level (items_of (drop (i + 1) xs))) p
        (at-module level i xs d m h (sym is ∙ e)) t

    -- a substack: its own line, and its items one level deeper
    pub sub-written : {old mid new : Out W} (level i : ℕ) (xs : List Item) (d : Item) (s : SubList) → i < length xs → d ≡ get_or xs i d
        → d ≡ SubItem s →
        ItemsBefore contents old mid level xs i → TookAll contents mid new (line (SubLine files level s.text) ++ lines (level + 1) s.inner) →
        ItemsBefore contents old new level xs (i + 1)
    sub-written level i xs d s h is e p t =
        partly-more (line (SubLine files level s.text) ++ lines (level + 1) s.inner) (lines level (items_of (drop (i + 1) xs))) p
        (at-sub level i xs d s h (sym is ∙ e)) t

    pub sub-failed : {old mid new : Out W} (level i : ℕ) (xs : List Item) (d : Item) (s : SubList) → i < length xs → d ≡ get_or xs i d
        → d ≡ SubItem s →
        ItemsBefore contents old mid level xs i → TookFront contents mid new (line (SubLine files level s.text) ++ lines (level + 1) s.inner) →
        TookFront contents old new (lines level (items_of xs))
    sub-failed level i xs d s h is e p t =
        partly-failed (line (SubLine files level s.text) ++ lines (level + 1) s.inner) (lines level (items_of (drop (i + 1) xs))) p
        (at-sub level i xs d s h (sym is ∙ e)) t

-- the borrowed items of a substack
pub inner-is : (items : List Item) (inside : Inside) (s : SubList) → items ≡ inside.items.items → sub_list inside ≡ s → items_of items ≡ s.inner
inner-is items inside s e v = ap items_of e ∙ ap (λ (x : SubList). x.inner) v

-- a substack is one level deeper
pub shallow-sub : (level i : ℕ) (xs : List Item) (d : Item) (s : SubList) → i < length xs → d ≡ get_or xs i d → d ≡ SubItem s
    → level + depth (items_of (drop i xs)) ≤ 16 →
    level + 1 + depth s.inner ≤ 16
shallow-sub level i xs d s h is e b =
    let deep : depth (items_of (drop i xs)) ≡ max (depth s.inner + 1) (depth (items_of (drop (suc i) xs))) =
    ap depth (items_of-drop_sub xs i d s h (sym is ∙ e)) in
    omega (arith, b, deep)

-- the items of a stack, by equal items in equal files
pub items-are : (line : Line → List ℕ) (stack : StackValue) {files : Folder} {items : Items} → files ≡ stack.files → items ≡ stack.items
    → items_lines line files 0 items ≡ items_lines line stack.files 0 stack.items
items-are line stack e f = rw (e, f) refl
