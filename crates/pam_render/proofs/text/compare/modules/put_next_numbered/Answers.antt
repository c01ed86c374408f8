use Rattle.std.proofs.Common.{◌+◌, drop, true}
use Rattle.std.specs.List.{flat_map}
use Rattle.pam_codes.proofs.Writing.{err-front, front-is, front-longer, front-then}
use Rattle.pam_text.proofs.FlatTexts.{flat_map-at}
use Rattle.pam_render.specs.text.Compare.{numbered_text}
use Rattle.pam_render.proofs.text.compare.modules.put_next_numbered.Goals as goal

pub returns-in_err-put_numbered_one : goal.returns-in_err-put_numbered_one
returns-in_err-put_numbered_one g c =
    let numbers = c.args.numbers.now in
    let text = numbered_text c.args.place.now c.args.stack.now c.args.change.now true in
    let index = c.loop-number.number-index in
    err-front _ c.from_residual.ensures.0
    (front-is (front-longer (flat_map text (drop (index + 1) numbers)) (front-then c.loop-number.invariant c.in_err-put_numbered_one.ensures))
    (flat_map-at text numbers index _ c.loop-number-test.true))
