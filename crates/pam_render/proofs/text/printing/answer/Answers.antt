use Rattle.std.proofs.Common.{Ok, Err, map, refl}
use Rattle.std.specs.Prelude.{unwrap_or}
use Rattle.pam_report.specs.Finds.{Finds}
use Rattle.pam_report.specs.Inputs.{files_given, no_files}
use Rattle.pam_report.specs.Memory.{wants}
use Rattle.pam_report.specs.ReplyViews.{reply_view}
use Rattle.pam_render.proofs.TextProofs.Leaving.{answers-by, page-wants, printed, refused, unprinted, unprinted-wants}
use Rattle.pam_render.specs.text.Leaves.{LeavesSome}
use Rattle.pam_render.specs.text.Text.{IsTextIn}
use Rattle.pam_words.specs.Wanted.{candidate_view}
use Rattle.pam_render.proofs.text.printing.answer.Goals as goal

pub returns-in-Err : goal.returns-in-Err
returns-in-Err g c =
    let request = c.args.request.now in
    let files = unwrap_or (files_given c.args.inputs.now) no_files in
    let leaves = answers-by (Finds (Err c.in-Err.fault)) (LeavesSome g.W.Write.contents (IsTextIn request.output) _ _ (Err c.in-Err.fault))
    (λ IsAnswer h. refused g.W.Write.contents (IsTextIn request.output) _ _ c.in-Err.fault IsAnswer refl h)
    request.service.now (map candidate_view request.candidates.items) request.task files c.args.inputs.now c.in-Err.ensures.0 in
    (leaves, c.in-Err.ensures.1)

pub returns-in-Ok-printed : goal.returns-in-Ok-printed
returns-in-Ok-printed g c =
    let request = c.args.request.now in
    let files = unwrap_or (files_given c.args.inputs.now) no_files in
    let status = c.status-status.result in
    let leaves = answers-by (Finds (Ok c.in-Ok.reply)) (LeavesSome g.W.Write.contents (IsTextIn request.output) _ _ (Ok status))
    (λ IsAnswer h. printed g.W.Write.contents (IsTextIn request.output) _ _ (reply_view c.in-Ok.reply) status tt c.in-Ok-printed.ensures c.status-status.ensures
    IsAnswer h)
    request.service.now (map candidate_view request.candidates.items) request.task files c.args.inputs.now c.in-Ok.ensures.0 in
    (leaves, tt)

pub returns-in-Err-printed : goal.returns-in-Err-printed
returns-in-Err-printed g c =
    let request = c.args.request.now in
    let inputs = c.args.inputs.now in
    let files = unwrap_or (files_given inputs) no_files in
    let fault = c.in-Err-printed.fault in
    let reply = c.in-Ok.reply in
    let leaves = answers-by (Finds (Ok reply)) (LeavesSome g.W.Write.contents (IsTextIn request.output) _ _ (Err fault))
    (λ IsAnswer h. unprinted g.W.Write.contents (IsTextIn request.output) _ _ fault (reply_view reply) c.in-Err-printed.ensures IsAnswer h)
    request.service.now (map candidate_view request.candidates.items) request.task files inputs c.in-Ok.ensures.0 in
    let works = page-wants request.service.now (map candidate_view request.candidates.items) request.task files inputs reply c.in-Ok.ensures.0 in
    let wanting = unprinted-wants g.W.Write.contents (IsTextIn request.output) _ _ (wants request.task inputs) fault (reply_view reply) c.in-Err-printed.ensures
    works in
    (leaves, wanting)
