use Rattle.std.proofs.Common.{◌∙◌, ◌++◌, ◌||◌, ap, codes}
use Rattle.pam_codes.proofs.Writing.{all-is, writes-is, writes-then}
use Rattle.pam_render.specs.text.Compare.{has_any, moved_text, numbered}
use Rattle.pam_render.proofs.text.compare.modules.put_added.Goals as goal

pub returns : goal.returns
returns g c =
    let pair = c.args.pair.now in
    let more = c.args.more in
    writes-is _ _ _ _ _ _
    (writes-then _ _ _ (all-is c.in_ok-put_numbered.ensures (ap (numbered (codes " of new") pair.new (codes "added") more) c.deref.ensures.value))
    c.put_moved.ensures)
    (ap (λ b. numbered (codes " of new") pair.new (codes "added") more pair.modules.added.items ++ moved_text pair b)
    (c.either.ensures ∙ ap (λ b. more || b) (c.has_any.ensures ∙ ap has_any c.deref-2.ensures.value)))
