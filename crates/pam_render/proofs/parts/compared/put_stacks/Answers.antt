use Rattle.std.proofs.Common.{◌+◌, drop}
use Rattle.pam_report.specs.ReplyViews.{compare_view}
use Rattle.pam_text.proofs.Writing.{all-then, err-front, front-is, front-longer, front-then}
use Rattle.pam_render.specs.parts.Compared.{lines_after}
use Rattle.pam_render.proofs.PartsProofs.ComparedLines.{lines-at, next-service}
use Rattle.pam_render.proofs.parts.compared.put_stacks.Goals as goal

pub returns-in_err-put_next_stack : goal.returns-in_err-put_next_stack
returns-in_err-put_next_stack g c =
    let l = c.loop-stack in
    let line = g.L.CompareLines.line in
    let value = compare_view c.args.reply.now in
    let stacks = c.args.stacks.now in
    let others = lines_after line value (next-service stacks l.stack-index) (drop (l.stack-index + 1) stacks) in
    err-front _ c.from_residual.ensures.0
    (front-is (front-longer others (front-then l.invariant.took c.in_err-put_next_stack.ensures))
    (lines-at line value stacks l.before l.invariant.front _ l.stack-index c.loop-stack-test.true l.invariant.parts))

pub loop-stack-preserved : goal.loop-stack-preserved
loop-stack-preserved g c =
    let l = c.loop-stack in
    let line = g.L.CompareLines.line in
    let value = compare_view c.args.reply.now in
    let stacks = c.args.stacks.now in
    record {
      front = _;
      parts = lines-at line value stacks l.before l.invariant.front _ l.stack-index c.loop-stack-test.true l.invariant.parts;
      took = all-then l.invariant.took c.in_ok-put_next_stack.ensures;
    }
