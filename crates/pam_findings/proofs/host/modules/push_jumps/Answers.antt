use Rattle.std.proofs.Common.{refl}
use Rattle.pam_findings.specs.declared.host.problem.Problem.TheVariants as problems
use Rattle.pam_findings.proofs.HostProofs.Adding.{listed-all, listed-more, listed-none}
use Rattle.pam_findings.proofs.host.modules.push_jumps.Goals as goal

pub loop-number-init : goal.loop-number-init
loop-number-init c = listed-none problems.JumpPastEnd c.args.stack.now c.args.numbers.now c.args.spots.now.items

pub loop-number-preserved : goal.loop-number-preserved
loop-number-preserved c =
    listed-more problems.JumpPastEnd c.args.stack.now c.args.numbers.now c.loop-number.number-index _ _
    c.args.spots.now.items c.loop-number.spots.items c.push_module.new.spots.items c.loop-number-test.true refl
    c.loop-number.invariant c.in_ok-push_module.ensures

pub returns : goal.returns
returns c =
    listed-all problems.JumpPastEnd c.args.stack.now c.args.numbers.now c.loop-number.number-index
    c.args.spots.now.items c.loop-number.spots.items c.loop-number-test.false c.loop-number.invariant
