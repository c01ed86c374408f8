use Rattle.std.proofs.Common.{◌+◌, ◌≡◌, ◌∙◌, arith, drop, sym}
use Rattle.std.specs.List.{flat_map, range_with_len}
use Rattle.pam_codes.proofs.Writing.{all-is, all-then, err-front, front-is, front-longer, front-then}
use Rattle.pam_codes.specs.declared.code.TheConstants.{CODES}
use Rattle.pam_codes.specs.Code.{all_codes}
use Rattle.pam_drawing.specs.Drawing.{end_if_drawn}
use Rattle.pam_drawing.proofs.Indices.{range-all, range-at, range-push}
use Rattle.pam_drawing.proofs.edge.put_each_end.Goals as goal

pub returns-in_err-put_end_if_drawn : goal.returns-in_err-put_end_if_drawn
unfolding all_codes
returns-in_err-put_end_if_drawn g c =
    let text = end_if_drawn c.args.format c.args.drawn in
    let number = c.loop-number.number in
    let first : 0 + number ≡ number = omega arith in
    err-front _ c.from_residual.ensures.0
    (front-is
    (front-longer (flat_map text (drop (number + 1) (range_with_len 0 CODES))) (front-then c.loop-number.invariant c.in_err-put_end_if_drawn.ensures))
    (range-at text 0 CODES number _ c.loop-number-test.true (first ∙ sym c.code_numbered.ensures)))

pub loop-number-preserved : goal.loop-number-preserved
loop-number-preserved g c =
    let text = end_if_drawn c.args.format c.args.drawn in
    let number = c.loop-number.number in
    let first : 0 + number ≡ number = omega arith in
    all-is (all-then c.loop-number.invariant c.in_ok-put_end_if_drawn.ensures)
    (sym (range-push text 0 CODES number _ c.loop-number-test.true (first ∙ sym c.code_numbered.ensures)))

pub returns : goal.returns
unfolding all_codes
returns g c =
    all-is c.loop-number.invariant (range-all (end_if_drawn c.args.format c.args.drawn) 0 CODES c.loop-number.number c.loop-number-test.false)
