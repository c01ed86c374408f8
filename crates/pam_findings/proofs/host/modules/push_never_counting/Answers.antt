use Rattle.std.proofs.Common.{refl}
use Rattle.pam_findings.specs.host.Verdicts.{SaysWhoLogsIn}
use Rattle.pam_findings.specs.declared.host.problem.Problem.TheVariants as problems
use Rattle.pam_findings.proofs.HostProofs.Vain.{passing-all, passing-more, passing-none}
use Rattle.pam_findings.proofs.host.modules.push_never_counting.Goals as goal

pub loop-number-init : goal.loop-number-init
loop-number-init c =
    passing-none problems.SuccessNeverCounts c.args.stack.now (SaysWhoLogsIn c.args.failing.now) c.args.numbers.now c.args.spots.now.items

pub loop-number-preserved : goal.loop-number-preserved
loop-number-preserved c =
    passing-more problems.SuccessNeverCounts c.args.stack.now (SaysWhoLogsIn c.args.failing.now) c.args.numbers.now c.loop-number.number-index _ _
    c.args.spots.now.items c.loop-number.spots.items c.push_if_checks.new.spots.items c.loop-number-test.true refl
    c.loop-number.invariant c.in_ok-push_if_checks.ensures

pub returns : goal.returns
returns c =
    passing-all problems.SuccessNeverCounts c.args.stack.now (SaysWhoLogsIn c.args.failing.now) c.args.numbers.now c.loop-number.number-index
    c.args.spots.now.items c.loop-number.spots.items c.loop-number-test.false c.loop-number.invariant
