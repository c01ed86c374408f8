-- the lines of the stacks so far are written
use Rattle.std.proofs.Common.{take, map}
use Rattle.pam_report.specs.ReplyViews.{stack_view}
use Rattle.pam_text.specs.Out.{TookAll}
use Rattle.pam_render.specs.parts.Items.{stacks_lines}
use Rattle.pam_render.proofs.parts.items.put_stacks.Given as goal

abbrev pub invariant-loop-reply : goal.invariant-loop-reply
invariant-loop-reply g l =
    TookAll g.W.Write.contents l.initial.out l.out (stacks_lines g.L.StackLines.line (map stack_view (take l.reply-index l.replies)))
