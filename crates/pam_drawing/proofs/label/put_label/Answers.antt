use Rattle.std.proofs.Common.{◌+◌, drop}
use Rattle.std.specs.List.{flat_map}
use Rattle.pam_codes.proofs.Writing.{err-front, front-is, front-longer, front-then}
use Rattle.pam_drawing.specs.Labels.{quoted_byte}
use Rattle.pam_text.proofs.FlatTexts.{flat_map-at}
use Rattle.pam_drawing.proofs.label.put_label.Goals as goal

pub returns-in_err-put_byte : goal.returns-in_err-put_byte
returns-in_err-put_byte g c =
    let text = quoted_byte c.args.format in
    let all = c.args.text.now in
    let index = c.loop-byte.byte-index in
    err-front _ c.from_residual.ensures.0
    (front-is
    (front-longer (flat_map text (drop (index + 1) all))
    (front-then c.loop-byte.invariant c.in_err-put_byte.ensures))
    (flat_map-at text all index _ c.loop-byte-test.true))
