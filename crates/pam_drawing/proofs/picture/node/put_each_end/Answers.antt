use Rattle.pam_codes.proofs.Writing.{all-is, all-then, err-front}
use Rattle.pam_codes.specs.Code.{all_codes}
use Rattle.pam_codes.specs.declared.code.TheConstants.{CODES}
use Rattle.pam_drawing.proofs.Indices.{range-all, range-push}
use Rattle.pam_drawing.proofs.Loops.{failed-number}
use Rattle.pam_drawing.proofs.picture.node.put_each_end.Goals as goal
use Rattle.pam_drawing.specs.picture.Picture.{end_if_drawn}
use Rattle.std.proofs.Common.{◌+◌, ◌≡◌, ◌∙◌, arith, sym}

pub returns-in_err-put_end_if_drawn : goal.returns-in_err-put_end_if_drawn
unfolding all_codes
returns-in_err-put_end_if_drawn g c =
    let number = c.loop-number.number in
    let first : 0 + number ≡ number = omega arith in
    err-front _ c.from_residual.ensures.0
    (failed-number g.W.Write.contents (end_if_drawn c.args.layout.now c.args.drawn) CODES number _ c.loop-number-test.true
    (first ∙ sym c.code_numbered.ensures) c.loop-number.invariant c.in_err-put_end_if_drawn.ensures)

pub loop-number-preserved : goal.loop-number-preserved
loop-number-preserved g c =
    let number = c.loop-number.number in
    let first : 0 + number ≡ number = omega arith in
    all-is (all-then c.loop-number.invariant c.in_ok-put_end_if_drawn.ensures) (sym (range-push
    (end_if_drawn c.args.layout.now c.args.drawn) 0 CODES number _ c.loop-number-test.true (first ∙ sym c.code_numbered.ensures)))

pub returns : goal.returns
unfolding all_codes
returns g c =
    all-is c.loop-number.invariant (range-all (end_if_drawn c.args.layout.now c.args.drawn) 0 CODES c.loop-number.number c.loop-number-test.false)
