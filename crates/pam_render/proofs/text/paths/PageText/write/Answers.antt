use Rattle.pam_render.proofs.PartsProofs.Printed.{printed-by}
use Rattle.pam_paths.specs.declared.knowledge.Known.{Known}
use Rattle.pam_report.specs.PageView.{page_value}
use Rattle.pam_render.specs.text.Page.{page_text}
use Rattle.pam_render.specs.text.Text.{IsText}
use Rattle.pam_render.proofs.text.paths.PageText.write.Goals as goal

pub returns : goal.returns
returns g c =
    let rendered = c.render.ensures in
    printed-by Known g.W.Write.contents IsText page_text (page_value c.args.self.now.page.now) (λ _ is. is) _ _ _ rendered.0 rendered.1 rendered.2
