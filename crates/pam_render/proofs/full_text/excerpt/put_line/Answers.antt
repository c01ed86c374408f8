use Rattle.pam_codes.proofs.Writing.{writes-is}
use Rattle.pam_render.proofs.FullTextProofs.Excerpts.{line-is}
use Rattle.pam_render.proofs.full_text.excerpt.put_line.Goals as goal

pub returns : goal.returns
returns g c =
    let window = c.args.window.now in
    writes-is _ _ _ _ _ _ c.put_parts.ensures
    (line-is c.args.number c.digits.result window.before.now window.after.now c.points_before.result.now c.shown_before.result.now c.after.result.now
    c.points_after.result.now c.room_before.result c.room_after.result c.digits.ensures.value c.points_before.ensures.value c.room_before.ensures
    c.shown_before.ensures.value c.room_after.ensures c.after.ensures c.points_after.ensures)
