use Rattle.std.proofs.Common.{[], ap, codes}
use Rattle.pam_codes.proofs.Writing.{all-is, writes-is, writes-then}
use Rattle.pam_render.specs.text.Compare.{numbered}
use Rattle.pam_render.proofs.TextProofs.CompareTexts.{moved-are}
use Rattle.pam_render.proofs.text.compare.modules.put_moved.Goals as goal

pub returns : goal.returns
returns g c =
    let pair = c.args.pair.now in
    let moved = all-is c.in_ok-put_numbered.ensures (ap (numbered [] pair.old (codes "moved") c.args.more) c.deref.ensures.value) in
    writes-is _ _ _ _ _ _ (writes-then _ _ _ moved c.put_numbered-2.ensures)
    (moved-are pair c.args.more _ _ _ _ c.has_any.ensures c.deref-2.ensures.value c.either-more.ensures c.deref-3.ensures.value)
