use Rattle.std.proofs.Common.{◌≡◌, ◌-◌, ◌++◌, ◌∷◌, ◌∙◌, [], ap, arith, drop, length, List, ℕ, refl, subst, sym}
use Rattle.std.proofs.lemmas.List.{drop_all, length-drop}
use Rattle.pam_dispatch.specs.Flat.{level_of}
use Rattle.pam_dispatch.specs.inner.PositionTables.{IsTableFrom}
use Rattle.pam_dispatch.specs.inner.Stretches.{IsStretchOf, stretch_of}
use Rattle.pam_dispatch.proofs.PositionTables.{item-before, table-end, table-more}
use Rattle.pam_dispatch.proofs.Skipping.{IsFirstLevel, stretch-anew, stretch-on, stretch-within}
use Rattle.pam_dispatch.proofs.stretches.stretch_table.Goals as goal
use Rattle.pam_dispatch.proofs.stretches.stretch_table.Goals.{then-here-level, else-here-level}

pub loop-position-init : goal.loop-position-init
unfolding stretch_of
loop-position-init c =
    let ts = c.args.flat_items.now in
    let end : drop (length ts) ts ≡ [] = drop_all (length ts) ts (omega arith) in
    let made : c.push.new.self.items ≡ [] ++ 0 ∷ [] = c.in_ok-push.ensures.items ∙ ap (λ (l : List ℕ). l ++ 0 ∷ []) c.new-table.ensures.items in
    record {
      within = omega arith;
      stored = table-end IsStretchOf 0 ts c.push.new.self.items 0 made refl;
      last = sym (ap stretch_of end);
      level = subst (IsFirstLevel 0) (sym end) tt;
    }

pub overflow_add-length : goal.overflow_add-length
overflow_add-length c =
    let ts = c.args.flat_items.now in
    let i = c.loop-position.invariant in
    omega (arith, i.last, stretch-within (drop c.loop-position.position ts), length-drop c.loop-position.position ts, c.loop-position-test.true)

pub loop-position-preserved : goal.loop-position-preserved
loop-position-preserved c =
    let ts = c.args.flat_items.now in
    let position = c.loop-position.position in
    let i = c.loop-position.invariant in
    let e = c.index-flat_items-position.result in
    let here = item-before ts position e c.loop-position-test.true i.within c.index-flat_items-position.is in
    let level : c.level-here.result ≡ level_of e = c.level-here.ensures in
    let last : c.if-here-level.length ≡ stretch_of (e ∷ drop position ts) = elim c.if-here-level.branch [
      | then-here-level w ↦
          w.length-is ∙ omega (arith, i.last) ∙ stretch-on e (drop position ts) c.loop-position.level i.level (sym level ∙ w.if-here-level.true)
      | else-here-level w ↦
          w.length-is ∙ stretch-anew e (drop position ts) c.loop-position.level i.level (λ same. w.if-here-level.false (level ∙ same))
    ] in
    let now : c.if-here-level.length ≡ stretch_of (drop (position - 1) ts) = last ∙ ap stretch_of (sym here) in
    record {
      within = omega (arith, i.within);
      stored = table-more IsStretchOf 0 ts c.loop-position.table.items c.push-in-loop-position.new.self.items c.if-here-level.length position
          c.in_ok-push-2.ensures.items c.loop-position-test.true i.within i.stored now;
      last = now;
      level = subst (IsFirstLevel c.level-here.result) (sym here) (sym level);
    }

pub returns : goal.returns
returns c =
    subst (λ (n : ℕ). IsTableFrom IsStretchOf 0 n c.args.flat_items.now c.loop-position.table.items) (omega (arith, c.loop-position-test.false))
    c.loop-position.invariant.stored
