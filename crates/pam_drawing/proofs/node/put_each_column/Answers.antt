use Rattle.std.proofs.Common.{◌+◌, ◌≡◌, arith, drop, sym}
use Rattle.std.specs.List.{flat_map, range_with_len}
use Rattle.pam_codes.proofs.Writing.{all-is, all-then, err-front, front-is, front-longer, front-then}
use Rattle.pam_drawing.specs.Drawing.{column_text}
use Rattle.pam_drawing.proofs.Indices.{range-all, range-at, range-push}
use Rattle.pam_drawing.proofs.node.put_each_column.Goals as goal

pub returns-in_err-put_column : goal.returns-in_err-put_column
returns-in_err-put_column g c =
    let text = column_text in
    let number = c.loop-number.number in
    let first : 0 + number ≡ number = omega arith in
    err-front _ c.from_residual.ensures.0
    (front-is
    (front-longer (flat_map text (drop (number + 1) (range_with_len 0 c.args.count))) (front-then c.loop-number.invariant c.in_err-put_column.ensures))
    (range-at text 0 c.args.count number _ c.loop-number-test.true first))

pub loop-number-preserved : goal.loop-number-preserved
loop-number-preserved g c =
    let text = column_text in
    let number = c.loop-number.number in
    let first : 0 + number ≡ number = omega arith in
    all-is (all-then c.loop-number.invariant c.in_ok-put_column.ensures)
    (sym (range-push text 0 c.args.count number _ c.loop-number-test.true first))

pub returns : goal.returns
returns g c =
    all-is c.loop-number.invariant (range-all column_text 0 c.args.count c.loop-number.number c.loop-number-test.false)
