use Rattle.std.proofs.Common.{◌∙◌, ◌++◌, [], ap, codes, false}
use Rattle.pam_codes.proofs.Writing.{all-is, writes-is, writes-then}
use Rattle.pam_render.specs.text.Compare.{added_text, has_any, numbered}
use Rattle.pam_render.proofs.text.compare.modules.put_module_changes.Goals as goal

pub returns : goal.returns
returns g c =
    let pair = c.args.pair.now in
    writes-is _ _ _ _ _ _
    (writes-then _ _ _ (all-is c.in_ok-put_numbered.ensures (ap (numbered [] pair.old (codes "removed") false) c.deref.ensures.value)) c.put_added.ensures)
    (ap (λ b. numbered [] pair.old (codes "removed") false pair.modules.removed.items ++ added_text pair b)
    (c.has_any.ensures ∙ ap has_any c.deref-2.ensures.value))
