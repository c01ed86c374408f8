-- the rules of the kinds so far are written
use Rattle.std.proofs.Common.{take, map}
use Rattle.pam_codes.specs.Out.{TookAll}
use Rattle.pam_report.specs.ReplyViews.{released_view}
use Rattle.pam_render.specs.text.Released.{released_texts}
use Rattle.pam_render.proofs.text.released.put_each.Given as goal

abbrev pub invariant-loop-reply : goal.invariant-loop-reply
invariant-loop-reply g l =
    TookAll g.W.Write.contents l.initial.out l.out (released_texts (map released_view (take l.reply-index l.replies)))
