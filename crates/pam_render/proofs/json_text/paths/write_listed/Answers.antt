use Rattle.pam_render.proofs.PartsProofs.Printed.{listed, text-printed}
use Rattle.pam_report.specs.PageView.{page_value}
use Rattle.pam_report.specs.Reply.{Page}
use Rattle.pam_render.specs.json_text.Paths.{page_json}
use Rattle.pam_render.specs.json_text.Text.{IsJson}
use Rattle.pam_render.proofs.json_text.paths.write_listed.Goals as goal

pub returns : goal.returns
returns g c =
    let page = page_value c.args.page.now in
    λ found. text-printed g.W.Write.contents IsJson _ _ (Page page) _ _ _ (listed page_json page c.args.listing.now found) c.with_write_fault.ensures
    c.write_listing.ensures
