use Rattle.pam_codes.proofs.Writing.{all-is, all-then, err-front}
use Rattle.pam_drawing.proofs.Indices.{range-all, range-push}
use Rattle.pam_drawing.proofs.Loops.{failed-number}
use Rattle.pam_drawing.proofs.picture.heading.put_each_column.Goals as goal
use Rattle.pam_drawing.specs.picture.Picture.{column_text}
use Rattle.std.proofs.Common.{◌+◌, ◌≡◌, arith, sym}

pub returns-in_err-put_column : goal.returns-in_err-put_column
returns-in_err-put_column g c =
    let text = column_text c.args.sheet.now.stack.now c.args.sheet.now.nodes.now c.args.sheet.now.layout.now in
    let index = c.loop-index.index in
    let first : 0 + index ≡ index = omega arith in
    err-front _ c.from_residual.ensures.0
    (failed-number g.W.Write.contents text c.args.count index _ c.loop-index-test.true first c.loop-index.invariant c.in_err-put_column.ensures)

pub loop-index-preserved : goal.loop-index-preserved
loop-index-preserved g c =
    let text = column_text c.args.sheet.now.stack.now c.args.sheet.now.nodes.now c.args.sheet.now.layout.now in
    let index = c.loop-index.index in
    let first : 0 + index ≡ index = omega arith in
    all-is (all-then c.loop-index.invariant c.in_ok-put_column.ensures) (sym (range-push text 0 c.args.count index _ c.loop-index-test.true first))

pub returns : goal.returns
returns g c =
    let text = column_text c.args.sheet.now.stack.now c.args.sheet.now.nodes.now c.args.sheet.now.layout.now in
    all-is c.loop-index.invariant (range-all text 0 c.args.count c.loop-index.index c.loop-index-test.false)
