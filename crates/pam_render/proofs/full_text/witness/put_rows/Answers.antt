use Rattle.std.proofs.Common.{◌≡◌, ◌∙◌, ◌+◌, ap, drop, get_or, sym}
use Rattle.std.specs.List.{flat_map}
use Rattle.pam_text.proofs.FlatTexts.{flat_map-at, flat_map-take}
use Rattle.pam_text.proofs.Writing.{all-is, all-then, err-front, front-is, front-longer, front-then}
use Rattle.pam_findings.specs.declared.host.way_in.Answered.{Answered}
use Rattle.pam_render.specs.full_text.Witness.{row_of}
use Rattle.pam_render.specs.full_text.inner.Witness.{row_view, row_within}
use Rattle.pam_render.specs.parts.CheckNames.{names_view}
use Rattle.pam_render.proofs.full_text.witness.put_rows.Goals as goal

pub returns-in_err-put_row : goal.returns-in_err-put_row
returns-in_err-put_row g c =
    let widths = c.args.widths in
    let seen = row_of (names_view c.args.names.now).paths c.args.stack.now in
    let line = λ (answer : Answered). row_within widths (seen answer) in
    let answers = c.args.answers.now in
    let index = c.loop-answer.answer-index in
    let is = ap (row_within widths) (c.row_of.ensures ∙ ap seen c.answer-item.is) in
    err-front _ c.from_residual.ensures.0
    (front-is
    (front-longer (flat_map line (drop (index + 1) answers)) (front-then c.loop-answer.invariant (front-is c.in_err-put_row.ensures is)))
    (flat_map-at line answers index _ c.loop-answer-test.true))

pub loop-answer-preserved : goal.loop-answer-preserved
loop-answer-preserved g c =
    let widths = c.args.widths in
    let seen = row_of (names_view c.args.names.now).paths c.args.stack.now in
    let line = λ (answer : Answered). row_within widths (seen answer) in
    let answers = c.args.answers.now in
    let is = ap (row_within widths) (c.row_of.ensures ∙ ap seen c.answer-item.is) in
    all-is (all-then c.loop-answer.invariant (all-is c.in_ok-put_row.ensures is))
    (sym (flat_map-take line answers c.loop-answer.answer-index _ c.loop-answer-test.true))
