use Rattle.pam_report.specs.ReplyViews.{compare_view}
use Rattle.pam_text.proofs.Writing.{all-is, all-then, err-flushes, flushes-last, front-is, front-then}
use Rattle.pam_render.proofs.PartsProofs.ComparedLines.{all-lines-are}
use Rattle.pam_render.proofs.parts.compared.write_compared.Goals as goal

pub returns-in_err-put_line : goal.returns-in_err-put_line
returns-in_err-put_line g c =
    let line = g.L.CompareLines.line in
    err-flushes _ c.from_residual-in_err-put_line.ensures.0
    (front-is (front-then c.in_ok-put_stacks.ensures c.in_err-put_line.ensures)
    (all-lines-are line (compare_view c.args.reply.now) _ _ _ _ c.deref.ensures.value c.deref-2.ensures.value c.compared_count-stacks.ensures
    c.counts-counts.ensures))

pub returns : goal.returns
returns g c =
    let line = g.L.CompareLines.line in
    flushes-last _ _
    (all-is (all-then c.in_ok-put_stacks.ensures c.in_ok-put_line.ensures)
    (all-lines-are line (compare_view c.args.reply.now) _ _ _ _ c.deref.ensures.value c.deref-2.ensures.value c.compared_count-stacks.ensures
    c.counts-counts.ensures))
    c.finish.ensures
