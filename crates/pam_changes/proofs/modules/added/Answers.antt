use Rattle.std.proofs.Common.{◌+◌, ◌∙◌, Bool, refl, sym, ℕ}
use Rattle.std.specs.Prelude.{is_none}
use Rattle.pam_compare.specs.Matching.{partner_of}
use Rattle.pam_changes.proofs.Listing.{fails, passes}
use Rattle.pam_changes.proofs.modules.added.Goals.{then-is_unmatched+in_ok-push, else-is_unmatched}
use Rattle.pam_changes.proofs.modules.added.Goals as goal

pub loop-index-preserved : goal.loop-index-preserved
loop-index-preserved c =
    let test : ℕ → Bool = λ number. is_none (partner_of c.args.matching.now number) in
    let n = c.loop-index.index in
    elim c.if-is_unmatched.branch [
      | then-is_unmatched+in_ok-push w ↦
          rw w.numbers-is (passes test n (n + 1) refl c.loop-index.numbers.items _ c.loop-index.invariant
          (sym c.is_unmatched.ensures ∙ w.if-is_unmatched.true) w.in_ok-push.ensures.items)
      | else-is_unmatched w ↦
          rw w.numbers-is (fails test n (n + 1) refl c.loop-index.numbers.items _ c.loop-index.invariant
          (sym c.is_unmatched.ensures ∙ w.if-is_unmatched.false) refl)
    ]
