use Rattle.std.proofs.Common.{◌∙◌, ℕ, List, refl, subst}
use Rattle.pam_codes.specs.Out.{WritesAndFlushes}
use Rattle.pam_render.proofs.PartsProofs.Printed.{text-printed}
use Rattle.pam_report.specs.Reply.{Drawing}
use Rattle.pam_report.specs.ReplyViews.{drawing_view}
use Rattle.pam_render.proofs.TextProofs.Drawings.{drawing-is, drawn-in}
use Rattle.pam_render.specs.text.Drawing.{title_of}
use Rattle.pam_render.specs.text.Text.{IsText}
use Rattle.pam_render.proofs.text.drawing.write_drawing.Goals as goal

pub returns : goal.returns
returns g c =
    let reply = c.args.reply.now in
    let form = c.in-Ok-canvas_of.canvas in
    let title = c.deref-2.ensures.value ∙ c.in-Ok.ensures in
    let drawn = drawn-in reply.format form (title_of reply.service.now reply.kind) reply.stack reply.graph c.in-Ok-canvas_of.ensures in
    text-printed g.W.Write.contents IsText _ _ (Drawing (drawing_view reply)) _ _ _ (_, drawn, refl) c.with_write_fault.ensures
    (subst (λ (text : List ℕ). WritesAndFlushes g.W.Write.contents c.args.out.now c.write_graph.new.out c.write_graph.result text)
    (drawing-is form reply.stack reply.graph title) c.write_graph.ensures)
