use Rattle.std.proofs.Common.{arith, ℕ}
use Rattle.pam_text.specs.Members.{Member}
use Rattle.pam_findings.specs.host.inner.Looked.{OfModule}
use Rattle.pam_findings.specs.declared.host.problem.Problem.TheVariants as problems
use Rattle.pam_findings.specs.declared.host.problem.Spot.{Spot}
use Rattle.pam_findings.proofs.HostProofs.Adding.{modules-more, modules-none, tested-all}
use Rattle.pam_findings.proofs.host.modules.push_asked.Goals as goal

pub loop-index-init : goal.loop-index-init
loop-index-init c =
    let Of : ℕ → Spot → Type 0 =
    λ number spot. (Member number c.args.never_asked.now → ⊥) × OfModule problems.NeverAsked c.args.stack.now number spot in
    modules-none Of c.args.asked.now.items

pub loop-index-preserved : goal.loop-index-preserved
loop-index-preserved c =
    let Of : ℕ → Spot → Type 0 =
    λ number spot. (Member number c.args.never_asked.now → ⊥) × OfModule problems.NeverAsked c.args.stack.now number spot in
    modules-more Of c.loop-index.index c.args.asked.now.items c.loop-index.asked.items c.push_unless_listed.new.asked.items
    c.loop-index.invariant c.in_ok-push_unless_listed.ensures

pub returns : goal.returns
returns c =
    tested-all problems.NeverAsked c.args.stack.now (λ number. Member number c.args.never_asked.now → ⊥) c.loop-index.index
    c.args.asked.now.items c.loop-index.asked.items c.items-items.ensures.numbered (omega (arith, c.modules-index-end.ensures.count))
    c.loop-index.invariant
