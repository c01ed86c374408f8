use Rattle.std.proofs.Common.{arith}
use Rattle.pam_findings.specs.host.inner.Looked.{judgement_in}
use Rattle.pam_findings.specs.host.inner.Taking.{LacksAt}
use Rattle.pam_findings.proofs.HostProofs.Adding.{modules-more, modules-none}
use Rattle.pam_findings.proofs.HostProofs.Tokens.{lacks-all, lacks-included}
use Rattle.pam_findings.proofs.host.taking.push_taking.Goals as goal

pub returns-then-is_included : goal.returns-then-is_included
returns-then-is_included c =
    lacks-included c.args.kind (judgement_in c.args.of.now) c.args.is_included c.args.spots.now.items c.if-is_included.true

pub loop-index-init : goal.loop-index-init
loop-index-init c = modules-none (LacksAt c.args.kind (judgement_in c.args.of.now)) c.args.spots.now.items

pub loop-index-preserved : goal.loop-index-preserved
loop-index-preserved c =
    modules-more (LacksAt c.args.kind (judgement_in c.args.of.now)) c.loop-index.index c.args.spots.now.items c.loop-index.spots.items
    c.push_of_number.new.spots.items c.loop-index.invariant c.in_ok-push_of_number.ensures

pub returns : goal.returns
returns c =
    lacks-all c.args.kind (judgement_in c.args.of.now) c.args.is_included c.loop-index.index c.args.spots.now.items c.loop-index.spots.items c.if-is_included.false
    c.items-items.ensures.numbered (omega (arith, c.modules-index-end.ensures.count)) c.loop-index.invariant
