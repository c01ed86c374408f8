use Rattle.pam_findings.specs.host.inner.Looked.{OfModule, judgement_in}
use Rattle.pam_findings.specs.host.inner.Uncounted.{IsUncounted}
use Rattle.pam_findings.specs.declared.host.problem.Problem.TheVariants as problems
use Rattle.pam_findings.proofs.HostProofs.Adding.{adds-if, adds-unless}
use Rattle.pam_findings.proofs.host.uncounted.push_if_uncounted.Goals as goal

pub returns-then-not-is_uncounted : goal.returns-then-not-is_uncounted
returns-then-not-is_uncounted c =
    adds-unless (IsUncounted (judgement_in c.args.of.now) c.args.number) (OfModule problems.NoFailureCounted c.args.of.now.stack.now c.args.number)
    c.args.spots.now.items (c.in_ok-is_uncounted.ensures.no c.if-not-is_uncounted.true)

pub returns : goal.returns
returns c =
    adds-if (IsUncounted (judgement_in c.args.of.now) c.args.number) (OfModule problems.NoFailureCounted c.args.of.now.stack.now c.args.number)
    c.args.spots.now.items c.push_module.new.spots.items (c.in_ok-is_uncounted.ensures.yes c.if-not-is_uncounted.false) c.in_ok-push_module.ensures
