use Rattle.pam_report.specs.ReplyViews.{reply_view}
use Rattle.pam_render.proofs.TextProofs.Leaving.{patch-printed, text-printed-for_patch}
use Rattle.pam_render.proofs.text.printing.print_patch.Goals as goal

pub returns-in-Some : goal.returns-in-Some
returns-in-Some g c = patch-printed g.W.Write.contents _ _ (reply_view c.args.reply.now) _ _ c.in-Some.ensures c.write_patch.ensures

pub returns-in-None : goal.returns-in-None
returns-in-None g c = text-printed-for_patch g.W.Write.contents _ _ (reply_view c.args.reply.now) _ c.in-None.ensures c.print_text.ensures
