use Rattle.std.proofs.Common.{◌∙◌, sym}
use Rattle.std.proofs.lemmas.Bool.{false≢true}
use Rattle.pam_findings.specs.host.inner.Halves.{HasTaskAt}
use Rattle.pam_findings.specs.host.inner.Looked.{OfModule}
use Rattle.pam_findings.specs.declared.host.problem.Problem.TheVariants as problems
use Rattle.pam_findings.proofs.HostProofs.Adding.{adds-if, adds-unless}
use Rattle.pam_findings.proofs.host.faillock.push_if_task.Goals as goal

pub returns-then-not-has_task_at : goal.returns-then-not-has_task_at
returns-then-not-has_task_at c =
    adds-unless (HasTaskAt c.args.stack.now c.args.counts c.args.number) (OfModule (problems.NotCounted c.args.counts) c.args.stack.now c.args.number)
    c.args.spots.now.items (λ has. false≢true (sym c.if-not-has_task_at.true ∙ c.has_task_at.ensures ∙ has))

pub returns : goal.returns
returns c =
    adds-if (HasTaskAt c.args.stack.now c.args.counts c.args.number) (OfModule (problems.NotCounted c.args.counts) c.args.stack.now c.args.number)
    c.args.spots.now.items c.push_module.new.spots.items (sym c.has_task_at.ensures ∙ c.if-not-has_task_at.false) c.in_ok-push_module.ensures
