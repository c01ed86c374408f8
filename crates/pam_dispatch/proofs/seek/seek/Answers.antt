use Rattle.std.proofs.Common.{◌≡◌, ◌+◌, ◌<◌, ◌≤◌, ℕ, length, List, drop, take, [], ◌∙◌, sym, arith, refl, ap, subst}
use Rattle.std.proofs.lemmas.List.{drop_all, length-set}
use Rattle.pam_dispatch.specs.declared.state.State.{State}
use Rattle.pam_dispatch.specs.declared.flat_item.FlatItem.TheVariants.{Module, Substack}
use Rattle.pam_dispatch.specs.Flat.{IsPlaceOf, level_of, resume, rest_of}
use Rattle.pam_dispatch.specs.inner.Flat.{IsBounded}
use Rattle.pam_dispatch.proofs.Resume.{at_index, at_index-deeper, at_substack, at_module}
use Rattle.pam_dispatch.proofs.Skipping.{resume-from, stored-some, stored-within}
use Rattle.pam_dispatch.proofs.seek.seek.Goals as goal
use Rattle.pam_dispatch.proofs.seek.seek.Goals.{else-here-level-2-via-then-here-level-2+else-skip-gt0, else-here-level-2-via-else-here-level-2}

pub loop-position-init : goal.loop-position-init
loop-position-init c =
    record {
      rest = rw (c.from-depth.ensures) refl;
      state = refl;
      below = omega (arith, c.from-depth.ensures, c.requires.below);
      shallow = omega (arith, c.from-depth.ensures, c.args.place.now.shallow);
      full = search;
    }

pub loop-position-preserved-then-here-level : goal.loop-position-preserved-then-here-level
loop-position-preserved-then-here-level c =
    let l = c.loop-position in
    let e = l.invariant.rest in
    record {
      rest = at_index-deeper c.args.program.now l.position c.index-program-position.result c.index-program-position.result c.loop-position-test.true
          (sym c.index-program-position.is) l.level l.skip _ l.place.state (omega (arith, c.level-here.ensures))
          ∙ e;
      state = l.invariant.state;
      below = l.invariant.below;
      shallow = l.invariant.shallow;
      full = l.invariant.full;
    }

pub loop-position-preserved-then-skip-gt0 : goal.loop-position-preserved-then-skip-gt0
loop-position-preserved-then-skip-gt0 c =
    let l = c.loop-position in
    record {
      rest = resume-from c.args.program.now c.args.stretches.now l.position c.min-skipped.result l.level l.skip c.index-program-position.result
          c.index-program-position.result _ l.place.state c.requires.stretches c.loop-position-test.true (sym c.index-program-position.is)
          (sym c.level-here.ensures ∙ c.if-here-level-2.true) (omega (arith, c.min-skipped.ensures)) (omega (arith, c.min-skipped.ensures))
          ∙ l.invariant.rest;
      state = l.invariant.state;
      below = l.invariant.below;
      shallow = l.invariant.shallow;
      full = l.invariant.full;
    }

pub overflow_add-position-then-skip-gt0 : goal.overflow_add-position-then-skip-gt0
overflow_add-position-then-skip-gt0 c =
    let l = c.loop-position in
    let within = c.loop-position-test.true in
    omega (arith, c.min-skipped.ensures, stored-within c.args.program.now c.args.stretches.now l.position c.requires.stretches, within)

pub loop-position-smaller-then-skip-gt0 : goal.loop-position-smaller-then-skip-gt0
loop-position-smaller-then-skip-gt0 c =
    let l = c.loop-position in
    let within = c.loop-position-test.true in
    let some = stored-some c.args.program.now c.args.stretches.now l.position c.requires.stretches within in
    omega (arith, c.min-skipped.ensures, c.if-skip-gt0.true, some, within)

pub loop-position-preserved : goal.loop-position-preserved
loop-position-preserved c =
    let l = c.loop-position in
    let here = c.level-here.result in
    let h : here ≡ c.in-Substack.level = c.level-here.ensures ∙ ap level_of c.in-Substack.is in
    let is = sym c.index-program-position.is ∙ c.in-Substack.is ∙ ap (λ (x : ℕ). Substack x) (sym h) in
    let low : here ≤ l.level = c.if-here-level.false in
    let fits : here + 1 < 16 = subst IsBounded is (c.requires.flat_items l.position c.index-program-position.result c.loop-position-test.true) in
    let stays : here ≡ l.level → 0 < l.skip → ⊥ =
    elim c.else-here-level-2.branch [
      | else-here-level-2-via-then-here-level-2+else-skip-gt0 w ↦ λ e p. omega arith
      | else-here-level-2-via-else-here-level-2 w ↦ λ e p. w.if-here-level-2.false e
    ] in
    record {
      rest = ap (λ (x : List State). resume (drop (l.position + 1) c.args.program.now) (here + 1) 0 (take (here + 2) x) l.place.state) c.enter.ensures
          ∙ at_substack c.args.program.now l.position c.index-program-position.result here c.loop-position-test.true is l.place.entered.states l.depth
          l.level l.skip l.place.state
          low stays l.invariant.below (omega (arith, l.invariant.full)) ∙ l.invariant.rest;
      state = l.invariant.state;
      below = omega arith;
      shallow = omega arith;
      full = ap (λ (x : List State). length x) c.enter.ensures ∙ length-set l.place.entered.states (here + 1) l.place.state ∙ l.invariant.full;
    }

pub returns-in-Module-clause-place : goal.returns-in-Module-clause-place
unfolding IsPlaceOf
returns-in-Module-clause-place c =
    let here = c.level-here.result in
    let h : here ≡ c.in-Module.level = c.level-here.ensures ∙ ap level_of c.in-Module.is in
    rw (at_index c.args.program.now c.loop-position.position c.index-program-position.result _ c.loop-position-test.true
    (sym c.index-program-position.is ∙ c.in-Module.is))
    (ap (λ x. x + 1) h, refl)

pub returns-in-Module-clause-rest : goal.returns-in-Module-clause-rest
unfolding rest_of
returns-in-Module-clause-rest c =
    let l = c.loop-position in
    let here = c.level-here.result in
    let m = c.in-Module in
    let h : here ≡ m.level = c.level-here.ensures ∙ ap level_of m.is in
    let is = sym c.index-program-position.is ∙ m.is ∙ ap (λ (x : ℕ). Module x m.number m.control m.items_after) (sym h) in
    let stays : here ≡ l.level → 0 < l.skip → ⊥ =
    elim c.else-here-level-2.branch [
      | else-here-level-2-via-then-here-level-2+else-skip-gt0 w ↦ λ e p. omega arith
      | else-here-level-2-via-else-here-level-2 w ↦ λ e p. w.if-here-level-2.false e
    ] in
    at_module c.args.program.now l.position c.index-program-position.result here m.number m.control m.items_after c.loop-position-test.true is
    l.place.entered.states l.place.state
    l.depth l.level l.skip c.if-here-level.false stays l.invariant.below ∙ l.invariant.rest

pub returns-clause-place : goal.returns-clause-place
unfolding IsPlaceOf
returns-clause-place c =
    let e : drop c.loop-position.position c.args.program.now ≡ [] = drop_all _ _ c.loop-position-test.false in
    rw e refl

pub returns-clause-rest : goal.returns-clause-rest
unfolding rest_of resume
returns-clause-rest c =
    let e : drop c.loop-position.position c.args.program.now ≡ [] = drop_all _ _ c.loop-position-test.false in
    let k = c.loop-position.invariant.rest in
    rw e (rw e at k)
