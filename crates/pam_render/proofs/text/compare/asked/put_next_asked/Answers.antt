use Rattle.std.proofs.Common.{◌+◌, ap, drop}
use Rattle.std.specs.List.{flat_map}
use Rattle.pam_codes.proofs.Writing.{err-front, front-is, front-longer, front-then}
use Rattle.pam_text.proofs.FlatTexts.{flat_map-at}
use Rattle.pam_render.specs.text.Compare.{next_asked}
use Rattle.pam_render.proofs.text.compare.asked.put_next_asked.Goals as goal

pub returns-in_err-put_next_one : goal.returns-in_err-put_next_one
returns-in_err-put_next_one g c =
    let asked = c.args.asked.now in
    let text = next_asked c.args.pair.now in
    let index = c.loop-module.module-index in
    let failed = front-is c.in_err-put_next_one.ensures (ap text c.module-item.is) in
    err-front _ c.from_residual.ensures.0
    (front-is (front-longer (flat_map text (drop (index + 1) asked)) (front-then c.loop-module.invariant failed))
    (flat_map-at text asked index _ c.loop-module-test.true))
