use Rattle.std.proofs.Common.{codes}
use Rattle.pam_codes.proofs.Writing.{writes-is, writes-then}
use Rattle.pam_render.proofs.TextProofs.CheckTexts.{counted-many}
use Rattle.pam_render.proofs.text.check.put_counted.Goals as goal

pub returns : goal.returns
returns g c =
    writes-is _ _ _ _ _ _ (writes-then _ (codes "s") _ c.in_ok-put_line.ensures c.put.ensures)
    (counted-many c.args.count c.args.name.now _ c.if-count-eq1.false c.as_bytes.ensures.value)
