use Rattle.std.proofs.Common.{◌∙◌, ap, sym}
use Rattle.pam_findings.specs.tables.Needs.{OfAccess}
use Rattle.pam_findings.specs.tables.inner.Passes.{need_view}
use Rattle.pam_findings.proofs.TablesProofs.Adding.{known-at}
use Rattle.pam_findings.proofs.tables.needs.has_access.Goals as goal

pub returns-then-is_same : goal.returns-then-is_same
returns-then-is_same c =
    λ _. known-at c.args.needs.now c.loop-need.need-index c.need-item.result _ (OfAccess c.args.options.now) c.loop-need-test.true c.need-item.is
    (ap need_view c.in-Access.is ∙ ap OfAccess (sym c.of.ensures ∙ c.is_same.ensures.0 c.if-is_same.true))
