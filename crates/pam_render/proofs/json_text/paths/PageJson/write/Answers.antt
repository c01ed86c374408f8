use Rattle.pam_render.proofs.PartsProofs.Printed.{printed-by}
use Rattle.pam_paths.specs.declared.knowledge.Known.{Known}
use Rattle.pam_report.specs.PageView.{page_value}
use Rattle.pam_render.specs.json_text.Paths.{page_json}
use Rattle.pam_render.specs.json_text.Text.{IsJson}
use Rattle.pam_render.proofs.json_text.paths.PageJson.write.Goals as goal

pub returns : goal.returns
returns g c =
    let rendered = c.render.ensures in
    printed-by Known g.W.Write.contents IsJson page_json (page_value c.args.self.now.page.now) (λ _ is. is) _ _ _ rendered.0 rendered.1 rendered.2
