use Rattle.std.proofs.Common.{◌∙◌, arith, sym}
use Rattle.pam_findings.specs.host.Tokens.{may_ask_for}
use Rattle.pam_findings.specs.host.inner.Taking.{asks_for_at}
use Rattle.pam_findings.proofs.HostProofs.Tokens.{all-marked, none-so-far, one-marked, one-not-marked}
use Rattle.pam_findings.proofs.host.taking.asking.Goals.{else-asks_for_at, then-asks_for_at}
use Rattle.pam_findings.proofs.host.taking.asking.Goals as goal

pub loop-index-init : goal.loop-index-init
loop-index-init c = none-so-far (asks_for_at c.args.kind c.args.stack.now) 256

pub loop-index-preserved : goal.loop-index-preserved
loop-index-preserved c =
    let test = asks_for_at c.args.kind c.args.stack.now in
    let index = c.loop-index.index in
    let old = c.loop-index.marks in
    elim c.if-asks_for_at.branch [
      | then-asks_for_at w ↦ rw w.marks-is (one-marked test index old c.loop-index.invariant w.mark.new.marks w.mark.ensures
          (sym c.asks_for_at.ensures ∙ w.if-asks_for_at.true))
      | else-asks_for_at w ↦ rw w.marks-is (one-not-marked test index old c.loop-index.invariant (sym c.asks_for_at.ensures ∙ w.if-asks_for_at.false))
    ]

pub returns : goal.returns
returns c =
    all-marked (may_ask_for c.args.kind) c.args.stack.now c.loop-index.index c.loop-index.marks c.items-items.ensures.numbered
    (omega (arith, c.modules-index-end.ensures.count)) c.loop-index.invariant
