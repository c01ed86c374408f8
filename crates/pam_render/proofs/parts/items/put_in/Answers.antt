use Rattle.std.proofs.Common.{ap, sym, ℕ}
use Rattle.pam_report.specs.ReplyViews.{stack_view}
use Rattle.pam_text.proofs.Writing.{all-is, err-front, front-is, front-longer, writes-is, writes-then}
use Rattle.pam_render.proofs.PartsProofs.ItemLines.{items-are}
use Rattle.pam_render.specs.parts.Items.{Head, items_lines}
use Rattle.pam_render.proofs.parts.items.put_in.Goals as goal

pub returns-in_err-put_line : goal.returns-in_err-put_line
returns-in_err-put_line g c =
    let line = g.L.StackLines.line in
    let stack = stack_view c.args.reply.now in
    let head = ap (λ (modules : ℕ). line (Head stack.service stack.kind modules)) c.modules.ensures.count in
    err-front _ c.from_residual.ensures.0
    (front-longer (items_lines line stack.files 0 stack.items) (front-is c.in_err-put_line.ensures head))

pub returns : goal.returns
returns g c =
    let line = g.L.StackLines.line in
    let stack = stack_view c.args.reply.now in
    let head = ap (λ (modules : ℕ). line (Head stack.service stack.kind modules)) c.modules.ensures.count in
    writes-then _ _ _ (all-is c.in_ok-put_line.ensures head)
    (writes-is _ _ _ _ _ _ c.put_items.ensures (items-are line stack (sym c.requires) c.items.ensures.items))
