use Rattle.std.proofs.Common.{◌+◌, ap, drop, map}
use Rattle.std.specs.Char.{to_ascii_lowercase}
use Rattle.json.specs.Print.{escape, escape_byte}
use Rattle.pam_text.proofs.Writing.{err-front, front-is, front-longer, front-then}
use Rattle.pam_text.proofs.FlatTexts.{flat_map-seen_at}
use Rattle.pam_render.proofs.json_lines.text.put_lowered.Goals as goal

pub returns-in_err-put_byte : goal.returns-in_err-put_byte
returns-in_err-put_byte g c =
    let text = c.args.text.now in
    let index = c.loop-byte.byte-index in
    let failed = front-is c.in_err-put_byte.ensures (ap escape_byte c.to_ascii_lowercase.ensures.value) in
    err-front _ c.from_residual.ensures.0
    (front-is (front-longer (escape (map to_ascii_lowercase (drop (index + 1) text))) (front-then c.loop-byte.invariant failed))
    (flat_map-seen_at escape_byte to_ascii_lowercase text index 0 c.loop-byte-test.true))
