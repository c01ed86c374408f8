use Rattle.std.proofs.Common.{ap, map}
use Rattle.pam_report.specs.ReplyViews.{check_view}
use Rattle.pam_report.specs.Unused.{unused_view}
use Rattle.pam_text.proofs.Writing.{writes-is}
use Rattle.pam_render.proofs.PartsProofs.FindingLines.{last-is}
use Rattle.pam_render.proofs.parts.findings.put_last.Goals as goal

pub returns : goal.returns
returns g c =
    writes-is _ _ _ _ _ _ c.put_line.ensures
    (last-is g.L.CheckLines.line (check_view c.args.reply.now) _ _ _ _ _ c.len-services.ensures c.counts_of-counts.ensures
    c.deref.ensures.value c.deref-2.ensures.value (ap (map unused_view) c.deref-3.ensures.value))
