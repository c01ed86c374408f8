use Rattle.std.proofs.Common.{◌+◌, drop, ap}
use Rattle.std.specs.List.{flat_map}
use Rattle.pam_codes.proofs.Writing.{err-front, front-is, front-longer, front-then}
use Rattle.pam_text.proofs.FlatTexts.{flat_map-at}
use Rattle.pam_render.specs.text.Check.{answer_text, next_answer}
use Rattle.pam_render.proofs.text.check.finding.put_next_answers.Goals as goal

pub returns-in_err-put : goal.returns-in_err-put
returns-in_err-put g c =
    let answers = c.args.answers.now in
    let written = next_answer c.args.stack.now in
    let index = c.loop-answer.answer-index in
    let failed = front-longer (answer_text c.args.stack.now c.answer-item.result) c.in_err-put.ensures in
    err-front _ c.from_residual.ensures.0
    (front-is
    (front-longer (flat_map written (drop (index + 1) answers)) (front-then c.loop-answer.invariant (front-is failed (ap written c.answer-item.is))))
    (flat_map-at written answers index _ c.loop-answer-test.true))

pub returns-in_err-put_answer : goal.returns-in_err-put_answer
returns-in_err-put_answer g c =
    let answers = c.args.answers.now in
    let written = next_answer c.args.stack.now in
    let index = c.loop-answer.answer-index in
    let failed = front-then c.in_ok-put.ensures c.in_err-put_answer.ensures in
    err-front _ c.from_residual-in_err-put_answer.ensures.0
    (front-is
    (front-longer (flat_map written (drop (index + 1) answers)) (front-then c.loop-answer.invariant (front-is failed (ap written c.answer-item.is))))
    (flat_map-at written answers index _ c.loop-answer-test.true))
