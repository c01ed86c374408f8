use Rattle.pam_codes.proofs.Writing.{all-is, all-then, err-flushes, flushes-last, front-is, front-longer, front-then}
use Rattle.pam_render.proofs.TextProofs.OutcomeTexts.{lines-are}
use Rattle.pam_render.specs.text.Outcomes.{total_line}
use Rattle.pam_render.proofs.text.outcomes.write_outcomes.Goals as goal

pub returns-in_err-put_outcomes : goal.returns-in_err-put_outcomes
returns-in_err-put_outcomes g c =
    let reply = c.args.reply.now in
    let total = reply.outcomes.total in
    err-flushes _ c.from_residual-in_err-put_outcomes.ensures.0
    (front-is (front-longer (total_line total) (front-then c.in_ok-put_header.ensures c.in_err-put_outcomes.ensures))
    (lines-are reply.service.now reply.kind reply.stack total c.modules.ensures.count c.of-paths.ensures c.deref.ensures.value))

pub returns-in_err-put_total : goal.returns-in_err-put_total
returns-in_err-put_total g c =
    let reply = c.args.reply.now in
    err-flushes _ c.from_residual-in_err-put_total.ensures.0
    (front-is (front-then (all-then c.in_ok-put_header.ensures c.in_ok-put_outcomes.ensures) c.in_err-put_total.ensures)
    (lines-are reply.service.now reply.kind reply.stack reply.outcomes.total c.modules.ensures.count c.of-paths.ensures c.deref.ensures.value))

pub returns : goal.returns
returns g c =
    let reply = c.args.reply.now in
    flushes-last _ _
    (all-is (all-then (all-then c.in_ok-put_header.ensures c.in_ok-put_outcomes.ensures) c.in_ok-put_total.ensures)
    (lines-are reply.service.now reply.kind reply.stack reply.outcomes.total c.modules.ensures.count c.of-paths.ensures c.deref.ensures.value))
    c.finish.ensures
