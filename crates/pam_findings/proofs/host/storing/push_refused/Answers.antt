use Rattle.std.proofs.Common.{arith, ℕ}
use Rattle.pam_findings.specs.host.inner.Looked.{OfModule, judgement_in}
use Rattle.pam_findings.specs.host.inner.Storing.{IsStored}
use Rattle.pam_findings.specs.declared.host.problem.Problem.TheVariants as problems
use Rattle.pam_findings.specs.declared.host.problem.Spot.{Spot}
use Rattle.pam_findings.proofs.HostProofs.Adding.{modules-more, modules-none, tested-all}
use Rattle.pam_findings.proofs.host.storing.push_refused.Goals as goal

pub loop-index-init : goal.loop-index-init
loop-index-init c =
    let items = c.args.of.now.stack.now in
    let Of : ℕ → Spot → Type 0 =
    λ number spot. IsStored c.args.by (judgement_in c.args.of.now) number × OfModule (problems.StoredThoughRefused c.args.by) items number spot in
    modules-none Of c.args.spots.now.items

pub loop-index-preserved : goal.loop-index-preserved
loop-index-preserved c =
    let items = c.args.of.now.stack.now in
    let Of : ℕ → Spot → Type 0 =
    λ number spot. IsStored c.args.by (judgement_in c.args.of.now) number × OfModule (problems.StoredThoughRefused c.args.by) items number spot in
    modules-more Of c.loop-index.index c.args.spots.now.items c.loop-index.spots.items c.push_if_stored.new.spots.items
    c.loop-index.invariant c.in_ok-push_if_stored.ensures

pub returns : goal.returns
returns c =
    tested-all (problems.StoredThoughRefused c.args.by) c.args.of.now.stack.now (IsStored c.args.by (judgement_in c.args.of.now)) c.loop-index.index
    c.args.spots.now.items c.loop-index.spots.items c.items-items.ensures.numbered (omega (arith, c.modules-index-end.ensures.count))
    c.loop-index.invariant
