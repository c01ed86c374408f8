use Rattle.std.proofs.Common.{Bool, not, ◌∙◌, arith, sym, ℕ}
use Rattle.pam_dispatch.specs.State.{success}
use Rattle.pam_paths.specs.Known.{may_answer}
use Rattle.pam_findings.proofs.HostProofs.Tokens.{none-so-far, one-marked, one-not-marked}
use Rattle.pam_findings.proofs.HostProofs.Uncounted.{all-checking}
use Rattle.pam_findings.proofs.host.uncounted.checking.Goals.{else-checks_at, then-checks_at}
use Rattle.pam_findings.proofs.host.uncounted.checking.Goals as goal

pub loop-index-init : goal.loop-index-init
loop-index-init c =
    let test : ℕ → Bool = λ number. not (may_answer c.args.failing.now number success) in
    none-so-far test 256

pub loop-index-preserved : goal.loop-index-preserved
loop-index-preserved c =
    let test : ℕ → Bool = λ number. not (may_answer c.args.failing.now number success) in
    let index = c.loop-index.index in
    let old = c.loop-index.marks in
    elim c.if-checks_at.branch [
      | then-checks_at w ↦ rw w.marks-is (one-marked test index old c.loop-index.invariant w.mark.new.marks w.mark.ensures
          (sym c.checks_at.ensures ∙ w.if-checks_at.true))
      | else-checks_at w ↦ rw w.marks-is (one-not-marked test index old c.loop-index.invariant (sym c.checks_at.ensures ∙ w.if-checks_at.false))
    ]

pub returns : goal.returns
returns c =
    all-checking c.args.stack.now c.args.failing.now c.loop-index.index c.loop-index.marks (omega (arith, c.modules-index-end.ensures.count))
    c.loop-index.invariant
