-- Tables with an entry for each position of a list, the last position first.
use Rattle.std.proofs.Common.{◌≡◌, ℕ, ◌+◌, ◌-◌, ◌<◌, ◌≤◌, List, [], ◌∷◌, ◌++◌, ◌∙◌, ap, arith, drop, get_or, inl, inr, length, subst, sym}
use Rattle.std.proofs.lemmas.Bool.{cases_lt}
use Rattle.std.proofs.lemmas.List.{drop_all, drop_more, get_or_append_left, get_or_push, length-append}
use Rattle.pam_dispatch.specs.inner.PositionTables.{IsTableFrom}

-- the item before a position, and what is left from it on
pub item-before : {X : Type 0} (items : List X) (position : ℕ) (item : X) → 0 < position → position ≤ length items →
    item ≡ get_or items (position - 1) item → drop (position - 1) items ≡ item ∷ drop position items
item-before {X} items position item some within is =
    let next : position - 1 + 1 ≡ position = omega (arith, some) in
    drop_more items (position - 1) item (omega (arith, some, within))
    ∙ ap (λ (x : X). x ∷ drop (position - 1 + 1) items) (sym is) ∙ ap (λ (n : ℕ). item ∷ drop n items) next

module _ {X Y : Type 0} (Fits : List X → Y → Type 0) (none : Y) (items : List X) where
  -- the table that has the entry of the end alone
  pub table-end : (table : List Y) (entry : Y) → table ≡ [] ++ entry ∷ [] → Fits [] entry → IsTableFrom Fits none (length items) items table
  table-end table entry is fits = record {
    long = ap (λ (l : List Y). length l) is ∙ omega arith;
    each = λ left few.
        let end : drop (length items - left) items ≡ [] = drop_all (length items - left) items (omega (arith, few)) in
        let first : left ≡ 0 = omega (arith, few) in
        subst (λ (l : List X). Fits l (get_or table left none)) (sym end)
        (subst (Fits []) (sym (ap (λ (l : List Y). get_or l left none) is ∙ ap (λ (n : ℕ). get_or (entry ∷ []) n none) first)) fits);
  }

  -- one more entry, for the position before
  pub table-more : (table more : List Y) (entry : Y) (position : ℕ) → more ≡ table ++ entry ∷ [] → 0 < position → position ≤ length items →
      IsTableFrom Fits none position items table → Fits (drop (position - 1) items) entry → IsTableFrom Fits none (position - 1) items more
  table-more table more entry position is some within before fits = record {
    long = ap (λ (l : List Y). length l) is ∙ length-append table (entry ∷ []) ∙ omega (arith, before.long, some, within);
    each = λ left few. subst (λ (l : List Y). Fits (drop (length items - left) items) (get_or l left none)) (sym is) (at left few);
  }
    where
      at : (left : ℕ) → left ≤ length items - (position - 1) → Fits (drop (length items - left) items) (get_or (table ++ entry ∷ []) left none)
      at left few =
          elim (cases_lt left (length table)) [
            | inl k ↦
                subst (Fits (drop (length items - left) items)) (sym (get_or_append_left table (entry ∷ []) none left k))
                (before.each left (omega (arith, before.long, k)))
            | inr k ↦
                let here : position - 1 ≡ length items - left = omega (arith, before.long, k, few, some, within) in
                let end : length table ≡ left = omega (arith, before.long, k, few, some, within) in
                subst (Fits (drop (length items - left) items)) (sym (get_or_push table entry none left end))
                (subst (λ (n : ℕ). Fits (drop n items) entry) here fits)
          ]

  -- the entry of a position
  pub table-at : (table : List Y) (position : ℕ) → IsTableFrom Fits none 0 items table →
      Fits (drop position items) (get_or table (length items - position) none)
  table-at table position stored =
      let entry = get_or table (length items - position) none in
      let there = stored.each (length items - position) (omega arith) in
      elim (cases_lt (length items) position) [
        | inl k ↦
            let past : drop (length items - (length items - position)) items ≡ drop position items =
            drop_all (length items - (length items - position)) items (omega (arith, k)) ∙ sym (drop_all position items (omega (arith, k))) in
            subst (λ (l : List X). Fits l entry) past there
        | inr k ↦
            let same : length items - (length items - position) ≡ position = omega (arith, k) in
            subst (λ (n : ℕ). Fits (drop n items) entry) same there
      ]
