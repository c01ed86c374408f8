use Rattle.std.proofs.Common.{◌+◌, ◌∙◌, drop, sym}
use Rattle.pam_codes.proofs.Writing.{all-is, all-then, err-front, front-is, front-longer, front-then}
use Rattle.pam_paths.proofs.WrittenCursors.{dotted, text_all, text_at}
use Rattle.pam_paths.proofs.cursor.Cursor.write_text.Goals as goal

pub returns-in_err-put_line : goal.returns-in_err-put_line
returns-in_err-put_line g c =
    let others = c.in-Some.others.now in
    let parts = sym c.self.view_is ∙ sym c.as_slice.ensures.value ∙ c.in-Some.ensures.cases.0 in
    let i = c.loop-code.code-index in
    let written = front-then (all-then c.in_ok-put_number.ensures c.loop-code.invariant) c.in_err-put_line.ensures in
    err-front _ c.from_residual-in_err-put_line.ensures.0 (front-is (front-longer (dotted (drop (i + 1) others)) written)
    (text_at c.args.self.now others c.in-Some.first.now i _ _ parts c.loop-code-test.true c.from.ensures c.from-in-loop-code.ensures))

pub returns : goal.returns
returns g c =
    let parts = sym c.self.view_is ∙ sym c.as_slice.ensures.value ∙ c.in-Some.ensures.cases.0 in
    all-is (all-then c.in_ok-put_number.ensures c.loop-code.invariant)
    (text_all c.args.self.now c.in-Some.others.now c.in-Some.first.now c.loop-code.code-index _ parts c.loop-code-test.false c.from.ensures)
