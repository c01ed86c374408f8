use Rattle.std.specs.List.{flat_map}
use Rattle.pam_codes.proofs.Writing.{all-then, err-front, front-is, front-longer, front-then, writes-is, writes-then}
use Rattle.pam_render.proofs.TextProofs.CheckFindings.{answers_text-is}
use Rattle.pam_render.specs.text.Check.{answer_text, next_answer}
use Rattle.pam_render.proofs.text.check.finding.put_answers.Goals as goal

pub returns-in_err-put : goal.returns-in_err-put
returns-in_err-put g c =
    let items = c.args.stack.now in
    err-front _ c.from_residual.ensures.0
    (front-is
    (front-longer (flat_map (next_answer items) c.in-Some.others.now) (front-longer (answer_text items c.in-Some.first.now) c.in_err-put.ensures))
    (answers_text-is items _ _ _ c.in-Some.ensures.cases.0))

pub returns-in_err-put_answer : goal.returns-in_err-put_answer
returns-in_err-put_answer g c =
    let items = c.args.stack.now in
    err-front _ c.from_residual-in_err-put_answer.ensures.0
    (front-is (front-longer (flat_map (next_answer items) c.in-Some.others.now) (front-then c.in_ok-put.ensures c.in_err-put_answer.ensures))
    (answers_text-is items _ _ _ c.in-Some.ensures.cases.0))

pub returns : goal.returns
returns g c =
    writes-is _ _ _ _ _ _
    (writes-then _ _ _ (all-then c.in_ok-put.ensures c.in_ok-put_answer.ensures) c.put_next_answers.ensures)
    (answers_text-is c.args.stack.now _ _ _ c.in-Some.ensures.cases.0)
