use Rattle.std.proofs.Common.{ap}
use Rattle.std.specs.List.{flat_map}
use Rattle.pam_changes.specs.declared.modules.MatchedPair.{MatchedPair}
use Rattle.pam_text.proofs.Writing.{all-is, err-front, front-is, front-longer, writes-then}
use Rattle.pam_report.specs.ReplyViews.{compare_view}
use Rattle.pam_render.specs.parts.Compared.{Arguments, told_lines}
use Rattle.pam_render.specs.parts.ComparedView.{head_view}
use Rattle.pam_render.proofs.parts.compared.pair.put_pair.Goals as goal

pub returns-in_err-put_arguments : goal.returns-in_err-put_arguments
returns-in_err-put_arguments g c =
    let head = head_view c.args.stack.head in
    let pair = c.args.stack.pair.now in
    let line = λ (m : MatchedPair). g.L.CompareLines.line (Arguments head pair m) in
    err-front _ c.from_residual.ensures.0
    (front-longer (told_lines g.L.CompareLines.line (compare_view c.args.reply.now) head pair)
    (front-is c.in_err-put_arguments.ensures (ap (flat_map line) c.deref.ensures.value)))

pub returns : goal.returns
returns g c =
    let line = λ (m : MatchedPair). g.L.CompareLines.line (Arguments (head_view c.args.stack.head) c.args.stack.pair.now m) in
    writes-then _ _ _ (all-is c.in_ok-put_arguments.ensures (ap (flat_map line) c.deref.ensures.value)) c.put_told.ensures
