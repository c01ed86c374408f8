use Rattle.std.proofs.Common.{◌∙◌}
use Rattle.pam_page.proofs.AddedLines.{adds-after}
use Rattle.pam_page.proofs.page.PageLines.add_after.Goals as goal

pub returns-clause-added : goal.returns-clause-added
returns-clause-added g c =
    adds-after _ c.args.self.now.lines _ _ c.put_path.result c.in_ok-write.ensures.written
    (c.if-append_line.ensures.line ∙ c.in_ok-write.ensures.empty) c.put_path.ensures
