use Rattle.std.proofs.Common.{sym}
use Rattle.pam_findings.specs.host.inner.Looked.{OfModule, judgement_in}
use Rattle.pam_findings.specs.host.inner.Storing.{IsStored}
use Rattle.pam_findings.specs.declared.host.problem.Problem.TheVariants as problems
use Rattle.pam_findings.proofs.HostProofs.Adding.{adds-if, adds-unless}
use Rattle.pam_findings.proofs.host.storing.push_if_stored.Goals as goal

pub returns-then-not-is_stored : goal.returns-then-not-is_stored
returns-then-not-is_stored c =
    adds-unless (IsStored c.args.by (judgement_in c.args.of.now) c.args.number)
    (OfModule (problems.StoredThoughRefused c.args.by) c.args.of.now.stack.now c.args.number) c.args.spots.now.items
    (c.in_ok-is_stored.ensures.no c.if-not-is_stored.true)

pub returns : goal.returns
returns c =
    adds-if (IsStored c.args.by (judgement_in c.args.of.now) c.args.number)
    (OfModule (problems.StoredThoughRefused c.args.by) c.args.of.now.stack.now c.args.number) c.args.spots.now.items c.push_module.new.spots.items
    (c.in_ok-is_stored.ensures.yes c.if-not-is_stored.false) c.in_ok-push_module.ensures
