use Rattle.std.proofs.Common.{◌≡◌, ◌-◌, ◌++◌, ◌∷◌, ◌∙◌, [], ap, arith, drop, length, List, Bool, false, ℕ, refl, replicate, subst, sym}
use Rattle.std.proofs.lemmas.List.{drop_all}
use Rattle.pam_dispatch.specs.declared.flat_item.FlatItem.{FlatItem}
use Rattle.pam_dispatch.specs.inner.PositionTables.{IsTableFrom}
use Rattle.pam_dispatch.specs.inner.ReadLevels.{AreReadLevels}
use Rattle.pam_dispatch.proofs.PositionTables.{item-before, table-end, table-more}
use Rattle.pam_dispatch.proofs.ReadTables.{levels-end}
use Rattle.pam_dispatch.proofs.read_levels.read_table.Goals as goal

pub loop-position-init : goal.loop-position-init
loop-position-init c =
    let ts = c.args.flat_items.now in
    let n = length ts in
    let none : List Bool = replicate 16 false in
    let made : c.push.new.self.items ≡ [] ++ none ∷ [] =
    c.in_ok-push.ensures.items ∙ ap (λ (l : List (List Bool)). l ++ none ∷ []) c.new-table.ensures.items in
    record {
      within = omega arith;
      stored = table-end AreReadLevels [] ts c.push.new.self.items none made (levels-end none refl);
      last = subst (λ (x : List FlatItem). AreReadLevels x none) (sym (drop_all n ts (omega arith))) (levels-end none refl);
    }

pub loop-position-preserved : goal.loop-position-preserved
loop-position-preserved c =
    let ts = c.args.flat_items.now in
    let position = c.loop-position.position in
    let i = c.loop-position.invariant in
    let levels = c.levels_from-levels.result in
    let here = item-before ts position c.index-flat_items-position.result c.loop-position-test.true i.within c.index-flat_items-position.is in
    let last : AreReadLevels (drop (position - 1) ts) levels =
    subst (λ (x : List FlatItem). AreReadLevels x levels) (sym here) (c.levels_from-levels.ensures (drop position ts) i.last) in
    record {
      within = omega (arith, i.within);
      stored = table-more AreReadLevels [] ts c.loop-position.table.items c.push-in-loop-position.new.self.items levels position c.in_ok-push-2.ensures.items
          c.loop-position-test.true i.within i.stored last;
      last = last;
    }

pub returns : goal.returns
returns c =
    subst (λ (n : ℕ). IsTableFrom AreReadLevels [] n c.args.flat_items.now c.loop-position.table.items) (omega (arith, c.loop-position-test.false))
    c.loop-position.invariant.stored
