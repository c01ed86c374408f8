use Rattle.std.proofs.Common.{ap}
use Rattle.pam_findings.specs.tables.Needs.{OfTime}
use Rattle.pam_findings.specs.tables.inner.Passes.{need_view}
use Rattle.pam_findings.proofs.TablesProofs.Adding.{known-at}
use Rattle.pam_findings.proofs.tables.needs.has_time.Goals as goal

pub returns-in-Time : goal.returns-in-Time
returns-in-Time c =
    λ _. known-at c.args.needs.now c.loop-need.need-index c.need-item.result _ OfTime c.loop-need-test.true c.need-item.is (ap need_view c.in-Time.is)
