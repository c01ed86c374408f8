use Rattle.std.proofs.Common.{◌+◌, ◌∙◌, List, sym, subst, ap}
use Rattle.pam_codes.specs.declared.parts.Part.{Part}
use Rattle.pam_dispatch.proofs.ModuleParts.{AreCompleted, parts-module, parts-substack, parts-end}
use Rattle.pam_dispatch.proofs.program.module_parts.Goals as goal
use Rattle.pam_dispatch.proofs.program.module_parts.Goals.{in-Module+in_ok-push-in-Module, in-Substack}

pub loop-flat_item-preserved : goal.loop-flat_item-preserved
loop-flat_item-preserved c =
    let l = c.loop-flat_item in
    let ts = c.args.flat_items.now in
    let e = c.flat_item-item in
    elim c.match-flat_item.branch [
      | in-Module+in_ok-push-in-Module w ↦
          subst (λ (x : List (List Part)). AreCompleted ts x (l.flat_item-index + 1))
          (sym (ap (λ v. v.items) w.parts-is ∙ w.in_ok-push-in-Module.ensures.items))
          (parts-module ts l.flat_item-index l.parts.items l.invariant e.result _ _ _ _ _ c.loop-flat_item-test.true
          (sym e.is ∙ w.in-Module.is) w.parts.ensures)
      | in-Substack w ↦
          subst (λ (x : List (List Part)). AreCompleted ts x (l.flat_item-index + 1)) (sym (ap (λ v. v.items) w.parts-is))
          (parts-substack ts l.flat_item-index l.parts.items l.invariant e.result _ c.loop-flat_item-test.true (sym e.is ∙ w.in-Substack.is))
    ]

pub returns : goal.returns
returns c = parts-end c.args.flat_items.now c.loop-flat_item.flat_item-index c.loop-flat_item.parts.items c.loop-flat_item.invariant c.loop-flat_item-test.false
