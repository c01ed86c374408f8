use Rattle.pam_codes.proofs.Writing.{all-is, all-then, err-flushes, flushes-last, front-is, front-longer, front-then}
use Rattle.pam_report.specs.ReplyViews.{needs_view}
use Rattle.pam_render.proofs.JsonTextProofs.AnswerLines.{stack_line-is}
use Rattle.pam_render.specs.json_text.Needs.{rules_json}
use Rattle.pam_render.proofs.json_text.needs.write_needs.Goals as goal

pub returns-in_err-put_stack : goal.returns-in_err-put_stack
returns-in_err-put_stack g c =
    let reply = c.args.reply.now in
    let value = needs_view reply in
    err-flushes _ c.from_residual.ensures.0
    (front-longer (rules_json value value.rules)
    (front-is c.in_err-put_stack.ensures (stack_line-is reply.service.now reply.kind reply.stack c.modules.ensures.count)))

pub returns-in_err-put_rules : goal.returns-in_err-put_rules
returns-in_err-put_rules g c =
    let reply = c.args.reply.now in
    err-flushes _ c.from_residual-in_err-put_rules.ensures.0
    (front-then (all-is c.in_ok-put_stack.ensures (stack_line-is reply.service.now reply.kind reply.stack c.modules.ensures.count))
    c.in_err-put_rules.ensures)

pub returns : goal.returns
returns g c =
    let reply = c.args.reply.now in
    flushes-last _ _
    (all-then (all-is c.in_ok-put_stack.ensures (stack_line-is reply.service.now reply.kind reply.stack c.modules.ensures.count))
    c.in_ok-put_rules.ensures)
    c.finish.ensures
