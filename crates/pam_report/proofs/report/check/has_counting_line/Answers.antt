use Rattle.std.proofs.Common.{◌∙◌}
use Rattle.pam_report.proofs.UnusedLines.{some-counts}
use Rattle.pam_report.proofs.report.check.has_counting_line.Goals as goal

pub returns : goal.returns
returns c = c.some_line_counts.ensures ∙ some-counts c.args.fail_on c.args.unused.now
