use Rattle.std.proofs.Common.{◌∙◌, refl, sym}
use Rattle.pam_paths.specs.Known.{may_answer}
use Rattle.pam_findings.specs.stack.inner.Counting.{never_counts}
use Rattle.pam_findings.proofs.StackProofs.Unmarked.{more-fails, more-passes}
use Rattle.pam_findings.proofs.stack.counting.numbers_never_counting.Goals.{then-never_counts+in_ok-push, else-never_counts}
use Rattle.pam_findings.proofs.stack.counting.numbers_never_counting.Goals as goal

pub loop-index-preserved : goal.loop-index-preserved
loop-index-preserved c =
    let test = never_counts (may_answer c.args.known.now) c.args.asked.now c.args.counting.now in
    let old = c.loop-index.numbers.items in
    elim c.if-never_counts.branch [
      | then-never_counts+in_ok-push w ↦
          rw w.numbers-is (more-passes test c.loop-index.index old c.loop-index.invariant _
          (sym c.never_counts.ensures ∙ w.if-never_counts.true) w.in_ok-push.ensures.items)
      | else-never_counts w ↦
          rw w.numbers-is (more-fails test c.loop-index.index old c.loop-index.invariant _
          (sym c.never_counts.ensures ∙ w.if-never_counts.false) refl)
    ]
