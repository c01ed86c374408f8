use Rattle.std.proofs.Common.{◌∙◌, sym}
use Rattle.std.proofs.lemmas.Bool.{false≢true}
use Rattle.pam_findings.specs.host.Verdicts.{SaysWhoLogsIn}
use Rattle.pam_findings.specs.host.inner.Looked.{OfModule}
use Rattle.pam_findings.specs.declared.host.problem.Problem.TheVariants as problems
use Rattle.pam_findings.proofs.HostProofs.Adding.{adds-if, adds-unless}
use Rattle.pam_findings.proofs.host.modules.push_if_checks.Goals as goal

pub returns-then-may_succeed : goal.returns-then-may_succeed
returns-then-may_succeed c =
    adds-unless (SaysWhoLogsIn c.args.failing.now c.args.number) (OfModule problems.SuccessNeverCounts c.args.stack.now c.args.number)
    c.args.spots.now.items (λ no. false≢true (sym no ∙ sym c.may_succeed.ensures ∙ c.if-may_succeed.true))

pub returns : goal.returns
returns c =
    adds-if (SaysWhoLogsIn c.args.failing.now c.args.number) (OfModule problems.SuccessNeverCounts c.args.stack.now c.args.number)
    c.args.spots.now.items c.push_module.new.spots.items (sym c.may_succeed.ensures ∙ c.if-may_succeed.false) c.in_ok-push_module.ensures
