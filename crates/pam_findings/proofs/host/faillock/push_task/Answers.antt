use Rattle.std.proofs.Common.{arith, ℕ}
use Rattle.pam_findings.specs.host.inner.Halves.{HasTaskAt}
use Rattle.pam_findings.specs.host.inner.Looked.{OfModule}
use Rattle.pam_findings.specs.declared.host.problem.Problem.TheVariants as problems
use Rattle.pam_findings.specs.declared.host.problem.Spot.{Spot}
use Rattle.pam_findings.proofs.HostProofs.Adding.{modules-more, modules-none, tested-all}
use Rattle.pam_findings.proofs.host.faillock.push_task.Goals as goal

pub loop-index-init : goal.loop-index-init
loop-index-init c =
    let Of : ℕ → Spot → Type 0 =
    λ number spot. HasTaskAt c.args.stack.now c.args.counts number × OfModule (problems.NotCounted c.args.counts) c.args.stack.now number spot in
    modules-none Of c.args.spots.now.items

pub loop-index-preserved : goal.loop-index-preserved
loop-index-preserved c =
    let Of : ℕ → Spot → Type 0 =
    λ number spot. HasTaskAt c.args.stack.now c.args.counts number × OfModule (problems.NotCounted c.args.counts) c.args.stack.now number spot in
    modules-more Of c.loop-index.index c.args.spots.now.items c.loop-index.spots.items c.push_if_task.new.spots.items
    c.loop-index.invariant c.in_ok-push_if_task.ensures

pub returns : goal.returns
returns c =
    tested-all (problems.NotCounted c.args.counts) c.args.stack.now (HasTaskAt c.args.stack.now c.args.counts) c.loop-index.index
    c.args.spots.now.items c.loop-index.spots.items c.items-items.ensures.numbered (omega (arith, c.modules-index-end.ensures.count))
    c.loop-index.invariant
