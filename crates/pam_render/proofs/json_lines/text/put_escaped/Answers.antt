use Rattle.std.proofs.Common.{◌+◌, drop}
use Rattle.json.specs.Print.{escape, escape_byte}
use Rattle.pam_text.proofs.Writing.{err-front, front-is, front-longer, front-then}
use Rattle.pam_text.proofs.FlatTexts.{flat_map-at}
use Rattle.pam_render.proofs.json_lines.text.put_escaped.Goals as goal

pub returns-in_err-put_byte : goal.returns-in_err-put_byte
returns-in_err-put_byte g c =
    let text = c.args.text.now in
    let index = c.loop-byte.byte-index in
    err-front _ c.from_residual.ensures.0
    (front-is (front-longer (escape (drop (index + 1) text)) (front-then c.loop-byte.invariant c.in_err-put_byte.ensures))
    (flat_map-at escape_byte text index 0 c.loop-byte-test.true))
