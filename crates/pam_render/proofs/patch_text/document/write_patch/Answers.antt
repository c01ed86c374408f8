use Rattle.std.proofs.Common.{Ok, ◌∙◌, ap}
use Rattle.pam_report.specs.Reply.{Check}
use Rattle.pam_report.specs.ReplyViews.{check_view}
use Rattle.pam_render.proofs.PartsProofs.Printed.{text-printed}
use Rattle.pam_render.specs.patch_text.Check.{IsPatch}
use Rattle.pam_render.proofs.patch_text.document.write_patch.Goals as goal

pub returns-in-Ok : goal.returns-in-Ok
returns-in-Ok g c =
    text-printed g.W.Write.contents IsPatch _ _ (Check (check_view c.args.reply.now)) _ _ _ (ap Ok (c.deref.ensures.value ∙ c.in-Ok.ensures))
    c.with_write_fault.ensures
    c.write_text.ensures
