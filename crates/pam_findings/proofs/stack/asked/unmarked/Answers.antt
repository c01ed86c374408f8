use Rattle.std.proofs.Common.{◌∙◌, ap, not, refl, sym}
use Rattle.pam_findings.specs.stack.inner.Marks.{mark_of}
use Rattle.pam_findings.proofs.StackProofs.Unmarked.{more-fails, more-passes}
use Rattle.pam_findings.proofs.stack.asked.unmarked.Goals.{then-not-is_marked+in_ok-push, else-not-is_marked}
use Rattle.pam_findings.proofs.stack.asked.unmarked.Goals as goal

pub loop-index-preserved : goal.loop-index-preserved
loop-index-preserved c =
    let marks = c.args.marks.now in
    let old = c.loop-index.numbers.items in
    elim c.if-not-is_marked.branch [
      | then-not-is_marked+in_ok-push w ↦
          rw w.numbers-is (more-passes (λ number. not (mark_of marks number)) c.loop-index.index old c.loop-index.invariant _
          (ap not (sym c.is_marked.ensures ∙ w.if-not-is_marked.true)) w.in_ok-push.ensures.items)
      | else-not-is_marked w ↦
          rw w.numbers-is (more-fails (λ number. not (mark_of marks number)) c.loop-index.index old c.loop-index.invariant _
          (ap not (sym c.is_marked.ensures ∙ w.if-not-is_marked.false)) refl)
    ]
