use Rattle.std.proofs.Common.{◌++◌, List, ap}
use Rattle.pam_changes.specs.declared.guards.GuardingModule.{GuardingModule}
use Rattle.pam_report.specs.ReplyViews.{side_files}
use Rattle.pam_text.proofs.Writing.{all-is, err-front, front-is, front-longer, writes-is, writes-then}
use Rattle.pam_render.specs.parts.Compared.{StackOfOne, guard_lines}
use Rattle.pam_render.specs.parts.ComparedView.{head_view}
use Rattle.pam_render.specs.declared.parts.compared.line.Configuration.TheVariants.{Old, New}
use Rattle.pam_render.proofs.parts.compared.pair.put_all_guards.Goals as goal

pub returns-in_err-put_guards : goal.returns-in_err-put_guards
returns-in_err-put_guards g c =
    let line = g.L.CompareLines.line in
    let head = head_view c.args.differing.head in
    let pair = c.args.differing.pair.now in
    let old : StackOfOne = record { head = head; configuration = Old; files = side_files c.args.reply.now.old; items = pair.old } in
    let new : StackOfOne = record { head = head; configuration = New; files = side_files c.args.reply.now.new; items = pair.new } in
    err-front _ c.from_residual.ensures.0
    (front-longer (guard_lines line new pair.guards.added.items)
    (front-is c.in_err-put_guards.ensures (ap (guard_lines line old) c.deref.ensures.value)))

pub returns : goal.returns
returns g c =
    let line = g.L.CompareLines.line in
    let head = head_view c.args.differing.head in
    let pair = c.args.differing.pair.now in
    let old : StackOfOne = record { head = head; configuration = Old; files = side_files c.args.reply.now.old; items = pair.old } in
    let new : StackOfOne = record { head = head; configuration = New; files = side_files c.args.reply.now.new; items = pair.new } in
    writes-is _ _ _ _ _ _
    (writes-then _ _ _ (all-is c.in_ok-put_guards.ensures (ap (guard_lines line old) c.deref.ensures.value)) c.put_guards-2.ensures)
    (ap (λ (added : List GuardingModule). guard_lines line old pair.guards.removed.items ++ guard_lines line new added) c.deref-2.ensures.value)
