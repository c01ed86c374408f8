use Rattle.std.proofs.Common.{ℕ, ◌+◌, List, ◌++◌, drop, ◌∙◌, ap, sym}
use Rattle.pam_dispatch.specs.inner.Flat.{positions_from}
use Rattle.pam_dispatch.proofs.Positions.{positions-module, positions-substack, positions-end}
use Rattle.pam_dispatch.proofs.program.module_positions.Goals as goal
use Rattle.pam_dispatch.proofs.program.module_positions.Goals.{in-Module+in_ok-push-in-Module, in-Substack}

pub loop-position-preserved : goal.loop-position-preserved
loop-position-preserved c =
    let l = c.loop-position in
    let ts = c.args.flat_items.now in
    let e = c.index-flat_items-position in
    let more = positions_from (l.position + 1) (drop (l.position + 1) ts) in
    elim c.match-flat_item.branch [
      | in-Module+in_ok-push-in-Module w ↦
          ap (λ v. v.items ++ more) w.positions-is
          ∙ ap (λ (x : List ℕ). x ++ more) w.in_ok-push-in-Module.ensures.items
          ∙ positions-module ts l.position l.positions.items e.result _ _ _ _ c.loop-position-test.true (sym e.is ∙ w.in-Module.is)
          ∙ l.invariant
      | in-Substack w ↦
          ap (λ v. v.items ++ more) w.positions-is
          ∙ positions-substack ts l.position l.positions.items e.result _ c.loop-position-test.true (sym e.is ∙ w.in-Substack.is)
          ∙ l.invariant
    ]

pub returns : goal.returns
returns c =
    sym (positions-end c.args.flat_items.now c.loop-position.position c.loop-position.positions.items c.loop-position-test.false)
    ∙ c.loop-position.invariant
