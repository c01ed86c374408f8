use Rattle.pam_report.specs.ReplyViews.{reply_view}
use Rattle.pam_render.proofs.TextProofs.Leaving.{json-printed, text-printed-instead}
use Rattle.pam_render.proofs.text.printing.print_json.Goals as goal

pub returns-in-Some : goal.returns-in-Some
returns-in-Some g c = json-printed g.W.Write.contents (reply_view c.args.reply.now) _ _ _ c.in-Some.ensures

pub returns-in-None : goal.returns-in-None
returns-in-None g c = text-printed-instead g.W.Write.contents (reply_view c.args.reply.now) _ _ _ _ c.in-None.ensures c.print_text.ensures
