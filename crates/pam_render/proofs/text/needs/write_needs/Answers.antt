use Rattle.pam_codes.proofs.Writing.{all-is, all-then, err-flushes, flushes-last, front-is, front-longer, front-then}
use Rattle.pam_conf.specs.Stack.{module_count}
use Rattle.pam_report.specs.ReplyViews.{needs_view}
use Rattle.pam_render.proofs.TextProofs.NeedsTexts.{needs-are}
use Rattle.pam_render.specs.text.Header.{header_text}
use Rattle.pam_render.specs.text.Needs.{rules_text}
use Rattle.pam_render.proofs.text.needs.write_needs.Goals as goal

pub returns-in_err-put : goal.returns-in_err-put
returns-in_err-put g c =
    let value = needs_view c.args.reply.now in
    err-flushes _ c.from_residual.ensures.0
    (front-longer (rules_text value value.rules) (front-longer (header_text value.service value.kind (module_count value.items)) c.in_err-put.ensures))

pub returns-in_err-put_header : goal.returns-in_err-put_header
returns-in_err-put_header g c =
    let value = needs_view c.args.reply.now in
    err-flushes _ c.from_residual-in_err-put_header.ensures.0
    (front-is (front-longer (rules_text value value.rules) (front-then c.in_ok-put.ensures c.in_err-put_header.ensures))
    (needs-are value _ c.modules.ensures.count))

pub returns-in_err-put_rules : goal.returns-in_err-put_rules
returns-in_err-put_rules g c =
    err-flushes _ c.from_residual-in_err-put_rules.ensures.0
    (front-is (front-then (all-then c.in_ok-put.ensures c.in_ok-put_header.ensures) c.in_err-put_rules.ensures)
    (needs-are (needs_view c.args.reply.now) _ c.modules.ensures.count))

pub returns : goal.returns
returns g c =
    flushes-last _ _
    (all-is (all-then (all-then c.in_ok-put.ensures c.in_ok-put_header.ensures) c.in_ok-put_rules.ensures)
    (needs-are (needs_view c.args.reply.now) _ c.modules.ensures.count))
    c.finish.ensures
