use Rattle.std.proofs.Common.{None, Some}
use Rattle.pam_report.proofs.PageParts.{page-listed}
use Rattle.pam_report.proofs.report.paths.PathsPage.render.Goals as goal

pub returns-in-None : goal.returns-in-None
returns-in-None g c =
    let rendered = c.render_part.ensures in
    (rendered.0, page-listed c.args.self.now rendered.0 None c.in-None.is rendered.1, rendered.2)

pub returns-in-Some : goal.returns-in-Some
returns-in-Some g c =
    let rendered = c.render_walks.ensures in
    (rendered.0, page-listed c.args.self.now rendered.0 (Some c.in-Some.walks) c.in-Some.is rendered.1, rendered.2)
