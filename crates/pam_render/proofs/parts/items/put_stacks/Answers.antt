use Rattle.std.proofs.Common.{◌+◌, drop, map, ap}
use Rattle.pam_report.specs.ReplyViews.{stack_view}
use Rattle.pam_report.specs.declared.report.show.StackReply.{StackReply}
use Rattle.pam_text.proofs.FlatTexts.{flat_map-seen_at}
use Rattle.pam_text.proofs.Writing.{err-front, front-is, front-longer, front-then}
use Rattle.pam_render.specs.parts.Items.{stack_lines, stacks_lines}
use Rattle.pam_render.proofs.parts.items.put_stacks.Goals as goal

pub returns-in_err-put_stack : goal.returns-in_err-put_stack
returns-in_err-put_stack g c =
    let line = g.L.StackLines.line in
    let replies = c.args.replies.now in
    let index = c.loop-reply.reply-index in
    let failed = front-is c.in_err-put_stack.ensures (ap (λ (reply : StackReply). stack_lines line (stack_view reply)) c.reply-item.is) in
    err-front _ c.from_residual.ensures.0
    (front-is
    (front-longer (stacks_lines line (map stack_view (drop (index + 1) replies))) (front-then c.loop-reply.invariant failed))
    (flat_map-seen_at (stack_lines line) stack_view replies index _ c.loop-reply-test.true))
