use Rattle.pam_codes.proofs.Writing.{all-is, all-then, err-flushes, flushes-last, front-is, front-longer, front-then}
use Rattle.pam_render.proofs.JsonTextProofs.AnswerLines.{outcomes-are, stack_line-is}
use Rattle.pam_render.proofs.json_text.outcomes.write_outcomes.Goals as goal

pub returns-in_err-put_stack : goal.returns-in_err-put_stack
returns-in_err-put_stack g c =
    let reply = c.args.reply.now in
    err-flushes _ c.from_residual.ensures.0
    (front-longer _ (front-longer _ (front-is c.in_err-put_stack.ensures (stack_line-is reply.service.now reply.kind reply.stack c.modules.ensures.count))))

pub returns-in_err-put_outcomes : goal.returns-in_err-put_outcomes
returns-in_err-put_outcomes g c =
    let reply = c.args.reply.now in
    err-flushes _ c.from_residual-in_err-put_outcomes.ensures.0
    (front-longer _
    (front-then (all-is c.in_ok-put_stack.ensures (stack_line-is reply.service.now reply.kind reply.stack c.modules.ensures.count))
    (front-is c.in_err-put_outcomes.ensures (outcomes-are reply.stack c.of-paths.ensures c.deref.ensures.value))))

pub returns-in_err-put_total : goal.returns-in_err-put_total
returns-in_err-put_total g c =
    let reply = c.args.reply.now in
    err-flushes _ c.from_residual-in_err-put_total.ensures.0
    (front-then
    (all-then (all-is c.in_ok-put_stack.ensures (stack_line-is reply.service.now reply.kind reply.stack c.modules.ensures.count))
    (all-is c.in_ok-put_outcomes.ensures (outcomes-are reply.stack c.of-paths.ensures c.deref.ensures.value)))
    c.in_err-put_total.ensures)

pub returns : goal.returns
returns g c =
    let reply = c.args.reply.now in
    flushes-last _ _
    (all-then
    (all-then (all-is c.in_ok-put_stack.ensures (stack_line-is reply.service.now reply.kind reply.stack c.modules.ensures.count))
    (all-is c.in_ok-put_outcomes.ensures (outcomes-are reply.stack c.of-paths.ensures c.deref.ensures.value)))
    c.in_ok-put_total.ensures)
    c.finish.ensures
