use Rattle.std.proofs.Common.{◌+◌, ◌∙◌, Bool, ap, not, refl, sym, ℕ}
use Rattle.pam_compare.specs.Matching.{is_taken}
use Rattle.pam_changes.proofs.Listing.{fails, passes}
use Rattle.pam_changes.proofs.modules.removed.Goals.{then-not-is_matched+in_ok-push, else-not-is_matched}
use Rattle.pam_changes.proofs.modules.removed.Goals as goal

pub loop-index-preserved : goal.loop-index-preserved
loop-index-preserved c =
    let test : ℕ → Bool = λ number. not (is_taken c.args.matching.now number) in
    let n = c.loop-index.index in
    elim c.if-not-is_matched.branch [
      | then-not-is_matched+in_ok-push w ↦
          rw w.numbers-is (passes test n (n + 1) refl c.loop-index.numbers.items _ c.loop-index.invariant
          (ap not (sym c.is_matched.ensures ∙ w.if-not-is_matched.true)) w.in_ok-push.ensures.items)
      | else-not-is_matched w ↦
          rw w.numbers-is (fails test n (n + 1) refl c.loop-index.numbers.items _ c.loop-index.invariant
          (ap not (sym c.is_matched.ensures ∙ w.if-not-is_matched.false)) refl)
    ]
