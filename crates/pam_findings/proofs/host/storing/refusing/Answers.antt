use Rattle.std.proofs.Common.{◌∙◌, arith, sym}
use Rattle.pam_findings.specs.host.Storing.{refuses}
use Rattle.pam_findings.specs.host.inner.Storing.{refuses_at}
use Rattle.pam_findings.proofs.HostProofs.Tokens.{all-marked, none-so-far, one-marked, one-not-marked}
use Rattle.pam_findings.proofs.host.storing.refusing.Goals.{else-refuses_at, then-refuses_at}
use Rattle.pam_findings.proofs.host.storing.refusing.Goals as goal

pub loop-index-init : goal.loop-index-init
loop-index-init c = none-so-far (refuses_at c.args.by c.args.stack.now) 256

pub loop-index-preserved : goal.loop-index-preserved
loop-index-preserved c =
    let test = refuses_at c.args.by c.args.stack.now in
    let index = c.loop-index.index in
    let old = c.loop-index.marks in
    elim c.if-refuses_at.branch [
      | then-refuses_at w ↦ rw w.marks-is (one-marked test index old c.loop-index.invariant w.mark.new.marks w.mark.ensures
          (sym c.refuses_at.ensures ∙ w.if-refuses_at.true))
      | else-refuses_at w ↦ rw w.marks-is (one-not-marked test index old c.loop-index.invariant (sym c.refuses_at.ensures ∙ w.if-refuses_at.false))
    ]

pub returns : goal.returns
returns c =
    all-marked (refuses c.args.by) c.args.stack.now c.loop-index.index c.loop-index.marks c.items-items.ensures.numbered
    (omega (arith, c.modules-index-end.ensures.count)) c.loop-index.invariant
