use Rattle.std.proofs.Common.{◌+◌, drop, map, ap}
use Rattle.pam_codes.proofs.Writing.{err-front, front-is, front-longer, front-then}
use Rattle.pam_report.specs.ReplyViews.{released_view}
use Rattle.pam_report.specs.declared.report.released.ReleasedReply.{ReleasedReply}
use Rattle.pam_render.proofs.TextProofs.ShowTexts.{flat_map-viewed_at}
use Rattle.pam_render.specs.text.Released.{released_text, released_texts}
use Rattle.pam_render.proofs.text.released.put_each.Goals as goal

pub returns-in_err-put_released : goal.returns-in_err-put_released
returns-in_err-put_released g c =
    let replies = c.args.replies.now in
    let index = c.loop-reply.reply-index in
    let failed = front-is c.in_err-put_released.ensures (ap (λ (reply : ReleasedReply). released_text (released_view reply)) c.reply-item.is) in
    err-front _ c.from_residual.ensures.0
    (front-is
    (front-longer (released_texts (map released_view (drop (index + 1) replies))) (front-then c.loop-reply.invariant failed))
    (flat_map-viewed_at released_text released_view replies index _ c.loop-reply-test.true))
