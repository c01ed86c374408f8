use Rattle.pam_render.proofs.PartsProofs.Printed.{listed, text-printed}
use Rattle.pam_report.specs.PageView.{page_value}
use Rattle.pam_report.specs.Reply.{Page}
use Rattle.pam_render.specs.text.Page.{page_text}
use Rattle.pam_render.specs.text.Text.{IsText}
use Rattle.pam_render.proofs.text.paths.write_listed.Goals as goal

pub returns : goal.returns
returns g c =
    let page = page_value c.args.page.now in
    λ found. text-printed g.W.Write.contents IsText _ _ (Page page) _ _ _ (listed page_text page c.args.listing.now found) c.with_write_fault.ensures
    c.write_listing.ensures
