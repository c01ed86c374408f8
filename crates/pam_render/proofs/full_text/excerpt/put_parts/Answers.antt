use Rattle.std.proofs.Common.{◌+◌, drop}
use Rattle.std.specs.List.{flat_map}
use Rattle.pam_codes.proofs.Writing.{err-front, front-is, front-longer, front-then}
use Rattle.pam_text.proofs.FlatTexts.{flat_map-at}
use Rattle.pam_render.specs.full_text.inner.Views.{part_text}
use Rattle.pam_render.proofs.full_text.excerpt.put_parts.Goals as goal

pub returns-in_err-put_part : goal.returns-in_err-put_part
returns-in_err-put_part g c =
    let parts = c.args.parts.now in
    let index = c.loop-part.part-index in
    err-front _ c.from_residual.ensures.0
    (front-is (front-longer (flat_map part_text (drop (index + 1) parts)) (front-then c.loop-part.invariant c.in_err-put_part.ensures))
    (flat_map-at part_text parts index _ c.loop-part-test.true))
